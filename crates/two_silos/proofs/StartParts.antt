-- Tests of the parts of a start.
use Rattle.std.proofs.Common.{◌≡◌, ℕ, ◌+◌, ◌<◌, ◌≤◌, List, [], ◌∷◌, length, get_or, drop, Bool, true, false, refl, sym, ap, ◌∙◌, Option, Some, None, is_some, slice_get}
use Rattle.std.specs.Prelude.{ℤ, ◌&&◌}
use Rattle.std.proofs.lemmas.Bool.{lt-ltb, le-ltb}
use Rattle.std.proofs.lemmas.List.{drop_more, drop_all}
use Rattle.two_silos.specs.Nodes.{GrainId, NodeEntry, Part, Shift}
use Rattle.silo_nodes.specs.Packets.{all, is_ascending}
use Rattle.silo_nodes.specs.Logs.{moved, moved_by, balance}
use Rattle.silo_nodes.specs.LogCache.{Node}
use Rattle.two_silos.specs.World.{is_part, has_grain, node_at, nobody}
use Rattle.two_silos.specs.Links.{follows, ascends_from}
use Rattle.two_silos.proofs.ReachedWorlds.{got}

-- a grain has a balance where it has an opening one
pub balance-there : (opening : GrainId → Option ℤ) (log : List NodeEntry) (g : GrainId) → is_some (balance opening log g) ≡ is_some (opening g)
balance-there opening log g = go (opening g)
  where
    go : (o : Option ℤ) → is_some (moved_by o (moved g log log)) ≡ is_some o
    go None = refl
    go (Some b) = refl

-- the first of them
pub ascends-start : (s : List Shift) → ascends_from None s ≡ is_ascending s
ascends-start [] = refl
ascends-start (x ∷ xs) = refl

ascends-first : (x : Shift) (s : List Shift) → is_ascending (x ∷ s) ≡ ascends_from (Some x.grain) s
ascends-first x [] = refl
ascends-first x (y ∷ s) = refl

ascends-split : (p : Option GrainId) (s : List Shift) (i : ℕ) (x : Shift) → i < length s → x ≡ get_or s i x → ascends_from p (drop i s) ≡ (follows p x.grain && ascends_from (Some x.grain) (drop (i + 1) s))
ascends-split p s i x h e =
    ap (ascends_from p) (drop_more s i x h) ∙ ap (λ y. ascends_from p (y ∷ drop (i + 1) s)) (sym e) ∙ ap (λ b. follows p x.grain && b) (ascends-first x (drop (i + 1) s))

-- one more ascends
pub ascends-on : (p : Option GrainId) (s : List Shift) (i : ℕ) (x : Shift) (all : Bool) → i < length s → x ≡ get_or s i x → follows p x.grain ≡ true → ascends_from p (drop i s) ≡ all → ascends_from (Some x.grain) (drop (i + 1) s) ≡ all
ascends-on p s i x all h e f so_far = sym (ascends-split p s i x h e ∙ ap (λ b. b && ascends_from (Some x.grain) (drop (i + 1) s)) f) ∙ so_far

-- one doesn't
pub ascends-not : (p : Option GrainId) (s : List Shift) (i : ℕ) (x : Shift) (all : Bool) → i < length s → x ≡ get_or s i x → follows p x.grain ≡ false → ascends_from p (drop i s) ≡ all → false ≡ all
ascends-not p s i x all h e f so_far = sym (ascends-split p s i x h e ∙ ap (λ b. b && ascends_from (Some x.grain) (drop (i + 1) s)) f) ∙ so_far

-- none is left
pub ascends-end : (p : Option GrainId) (s : List Shift) (i : ℕ) (all : Bool) → length s ≤ i → ascends_from p (drop i s) ≡ all → true ≡ all
ascends-end p s i all h so_far = ap (ascends_from p) (sym (drop_all i s h)) ∙ so_far

-- a part of a participant that isn't there
pub part-none : (nodes : List Node) (q : Part) → length nodes ≤ q.node → is_part nodes q ≡ false
part-none nodes q h = ap (λ b. b && (is_ascending q.shifts && all (has_grain (node_at nodes q.node)) q.shifts)) (le-ltb q.node (length nodes) h)

-- of one that is
pub part-some : (nodes : List Node) (q : Part) (x : Node) → slice_get nodes q.node ≡ Some x → is_part nodes q ≡ (is_ascending q.shifts && all (has_grain x) q.shifts)
part-some nodes q x e =
    let g = got nodes q.node x nobody e in
    (λ i. lt-ltb q.node (length nodes) g.0 i && (is_ascending q.shifts && all (has_grain (g.1 i)) q.shifts))
