-- Pieces by grains, put together, are one piece of work for each grain.
use Rattle.std.proofs.Common.{◌≡◌, inl, inr, ℕ, Bool, true, false, List, [], ◌∷◌, ◌++◌, map, filter, refl, sym, ◌∙◌, ap, subst, append_assoc, append-nil}
use Rattle.std.specs.List.{flat_map, AllByRecursion}
use Rattle.std.proofs.lemmas.Bool.{cond-true, cond-false, false_from_ne_true}
use Rattle.cell_model.specs.Units.{same_grain, Member}
use Rattle.cell_model.proofs.Units.{filter-member, filter-stays}
use Rattle.core_model.specs.CoreState.{GrainId, Version}
use Rattle.core_model.specs.Tests.{grains_of}
use Rattle.core_laws.proofs.Plans.{grains-only}
use Rattle.prepare_batch.specs.declared.pieces.Piece.{Piece}
use Rattle.prepare_batch.specs.declared.works.FileWork.{FileWork}
use Rattle.prepare_batch.specs.Pieces.{first_work, more_work, with_piece, with_pieces, pieces_by_grain}
use Rattle.base_types.proofs.GrainOrder.{Before, Strict, same_is, is_same, irref}
use Rattle.prepare_batch.proofs.Orders.{strict_grains}

-- the pieces of a grain
abbrev pub is_on : GrainId → Piece → Bool
is_on g p = same_grain p.grain g

abbrev pub version_in : Piece → Version
version_in p = p.version

-- the work of a grain that has these versions
abbrev pub work_with : (GrainId → ℕ) → GrainId → List Version → FileWork
work_with at g versions = record { grain = g; at = at g; versions = versions }

-- ---- one piece more

-- a piece looks at the last work alone
pub piece_last : (at : GrainId → ℕ) (xs : List FileWork) (x : FileWork) (p : Piece) → with_piece at (xs ++ x ∷ []) p ≡ xs ++ with_piece at (x ∷ []) p
piece_last at [] x p = refl
piece_last at (y ∷ []) x p = refl
piece_last at (y ∷ z ∷ xs) x p = ap (λ l. y ∷ l) (piece_last at (z ∷ xs) x p)

-- one of the last grain
pub piece_more : (at : GrainId → ℕ) (xs : List FileWork) (x : FileWork) (p : Piece) → same_grain x.grain p.grain ≡ true → with_piece at (xs ++ x ∷ []) p ≡ xs ++ more_work x p ∷ []
piece_more at xs x p e = piece_last at xs x p ∙ ap (λ l. xs ++ l) (cond-true (same_grain x.grain p.grain) (more_work x p ∷ []) (x ∷ first_work at p ∷ []) e)

-- one of another
pub piece_other : (at : GrainId → ℕ) (xs : List FileWork) (x : FileWork) (p : Piece) → same_grain x.grain p.grain ≡ false → with_piece at (xs ++ x ∷ []) p ≡ (xs ++ x ∷ []) ++ first_work at p ∷ []
piece_other at xs x p e =
    piece_last at xs x p
    ∙ ap (λ l. xs ++ l) (cond-false (same_grain x.grain p.grain) (more_work x p ∷ []) (x ∷ first_work at p ∷ []) e)
    ∙ sym (append_assoc xs (x ∷ []) (first_work at p ∷ []))

-- ---- the pieces of one grain

pub pieces_append : (at : GrainId → ℕ) (xs : List FileWork) (ps qs : List Piece) → with_pieces at xs (ps ++ qs) ≡ with_pieces at (with_pieces at xs ps) qs
pieces_append at xs [] qs = refl
pieces_append at xs (p ∷ ps) qs = pieces_append at (with_piece at xs p) ps qs

-- where all works come before a piece's grain, it begins one
begins : (at : GrainId → ℕ) (xs : List FileWork) (p : Piece) → AllByRecursion (λ x. Before x.grain p.grain) xs → with_piece at xs p ≡ xs ++ first_work at p ∷ []
begins at [] p all = refl
begins at (x ∷ []) p all =
    cond-false (same_grain x.grain p.grain) (more_work x p ∷ []) (x ∷ first_work at p ∷ [])
    (false_from_ne_true (same_grain x.grain p.grain) (λ e. irref x.grain p.grain (same_is x.grain p.grain e) all.0))
begins at (x ∷ y ∷ xs) p all = ap (λ l. x ∷ l) (begins at (y ∷ xs) p all.1)

-- pieces of the last grain go to its work
goes_on : (at : GrainId → ℕ) (xs : List FileWork) (g : GrainId) (versions : List Version) (ps : List Piece) → AllByRecursion (λ p. p.grain ≡ g) ps
    → with_pieces at (xs ++ work_with at g versions ∷ []) ps ≡ xs ++ work_with at g (versions ++ map version_in ps) ∷ []
goes_on at xs g versions [] all = ap (λ l. xs ++ work_with at g l ∷ []) (sym (append-nil versions))
goes_on at xs g versions (p ∷ ps) all =
    ap (λ l. with_pieces at l ps) (piece_more at xs (work_with at g versions) p (is_same g p.grain (sym all.0)))
    ∙ goes_on at xs g (versions ++ p.version ∷ []) ps all.1
    ∙ ap (λ l. xs ++ work_with at g l ∷ []) (append_assoc versions (p.version ∷ []) (map version_in ps))

-- all pieces of a grain before which the works come
one_grain : (at : GrainId → ℕ) (xs : List FileWork) (g : GrainId) (p : Piece) (ps : List Piece) → AllByRecursion (λ x. Before x.grain g) xs → AllByRecursion (λ q. q.grain ≡ g) (p ∷ ps)
    → with_pieces at xs (p ∷ ps) ≡ xs ++ work_with at g (map version_in (p ∷ ps)) ∷ []
one_grain at xs g p ps before all =
    ap (λ l. with_pieces at l ps)
    (begins at xs p (subst (λ (k : GrainId). AllByRecursion (λ (x : FileWork). Before x.grain k) xs) (sym all.0) before)
    ∙ ap (λ (k : GrainId). xs ++ work_with at k (p.version ∷ []) ∷ []) all.0)
    ∙ goes_on at xs g (p.version ∷ []) ps all.1

-- ---- grain by grain

-- some piece is of the grain
abbrev HasPiece : List Piece → GrainId → Type 0
HasPiece ps g = (p : Piece) × (rest : List Piece) × (filter (is_on g) ps ≡ p ∷ rest)

all_of : (g : GrainId) (ps : List Piece) → AllByRecursion (λ q. q.grain ≡ g) (filter (is_on g) ps)
all_of g ps = go (filter (is_on g) ps) (λ p m. same_is p.grain g (filter-member (is_on g) ps p m).1)
  where
    go : (qs : List Piece) → ((p : Piece) → Member p qs → p.grain ≡ g) → AllByRecursion (λ q. q.grain ≡ g) qs
    go [] each = tt
    go (q ∷ qs) each = (each q (inl refl), go qs (λ p m. each p (inr m)))

all_with_last : (P : FileWork → Type 0) (xs : List FileWork) (x : FileWork) → AllByRecursion P xs → P x → AllByRecursion P (xs ++ x ∷ [])
all_with_last P [] x all one = (one, tt)
all_with_last P (y ∷ xs) x all one = (all.0, all_with_last P xs x all.1 one)

all_two : (P Q R : GrainId → Type 0) → ((g : GrainId) → P g → Q g → R g) → (gs : List GrainId) → AllByRecursion P gs → AllByRecursion Q gs → AllByRecursion R gs
all_two P Q R on [] p q = tt
all_two P Q R on (g ∷ gs) p q = (on g p.0 q.0, all_two P Q R on gs p.1 q.1)

pub all_grains : (at : GrainId → ℕ) (ps : List Piece) (gs : List GrainId) (xs : List FileWork) → Strict gs → AllByRecursion (HasPiece ps) gs → AllByRecursion (λ g. AllByRecursion (λ (x : FileWork). Before x.grain g) xs) gs
    → with_pieces at xs (flat_map (λ g. filter (is_on g) ps) gs) ≡ xs ++ map (λ g. work_with at g (map version_in (filter (is_on g) ps))) gs
all_grains at ps [] xs up has before = sym (append-nil xs)
all_grains at ps (g ∷ gs) xs up has before =
    let p = has.0.0 in
    let rest = has.0.1 in
    let is : filter (is_on g) ps ≡ p ∷ rest = has.0.2 in
    let new : FileWork = work_with at g (map version_in (filter (is_on g) ps)) in
    let block : with_pieces at xs (filter (is_on g) ps) ≡ xs ++ new ∷ [] =
    ap (with_pieces at xs) is
    ∙ one_grain at xs g p rest before.0 (subst (AllByRecursion (λ (q : Piece). q.grain ≡ g)) is (all_of g ps))
    ∙ ap (λ (l : List Piece). xs ++ work_with at g (map version_in l) ∷ []) (sym is) in
    let later : AllByRecursion (λ h. AllByRecursion (λ (x : FileWork). Before x.grain h) (xs ++ new ∷ [])) gs =
    all_two (λ h. AllByRecursion (λ (x : FileWork). Before x.grain h) xs) (λ h. Before g h) (λ h. AllByRecursion (λ (x : FileWork). Before x.grain h) (xs ++ new ∷ []))
    (λ h all low. all_with_last (λ (x : FileWork). Before x.grain h) xs new all low) gs before.1 up.0 in
    pieces_append at xs (filter (is_on g) ps) (flat_map (λ h. filter (is_on h) ps) gs)
    ∙ ap (λ (l : List FileWork). with_pieces at l (flat_map (λ h. filter (is_on h) ps) gs)) block
    ∙ all_grains at ps gs (xs ++ new ∷ []) up.1 has.1 later
    ∙ append_assoc xs (new ∷ []) (map (λ h. work_with at h (map version_in (filter (is_on h) ps))) gs)

named_by : (g : GrainId) (ps : List Piece) → Member g (map (λ (p : Piece). p.grain) ps) → (p : Piece) × Member p ps × (p.grain ≡ g)
named_by g [] none = absurd none
named_by g (p ∷ ps) (inl here) = (p, inl refl, sym here)
named_by g (p ∷ ps) (inr there) = (let t = named_by g ps there in (t.0, inr t.1, t.2))

has_piece : (ps : List Piece) (g : GrainId) → Member g (map (λ (p : Piece). p.grain) ps) → HasPiece ps g
has_piece ps g m =
    let t = named_by g ps m in
    go (filter (is_on g) ps) refl t.0 (filter-stays (is_on g) ps t.0 t.1 (is_same t.0.grain g t.2))
  where
    go : (l : List Piece) → filter (is_on g) ps ≡ l → (p : Piece) → Member p l → HasPiece ps g
    go [] e p none = absurd none
    go (q ∷ qs) e p m = (q, qs, e)

-- by grains, and put together
pub joined_grains : (at : GrainId → ℕ) (ps : List Piece) → with_pieces at [] (pieces_by_grain ps) ≡ map (λ g. work_with at g (map version_in (filter (is_on g) ps))) (grains_of (map (λ (p : Piece). p.grain) ps))
joined_grains at ps =
    let gs = grains_of (map (λ (p : Piece). p.grain) ps) in
    all_grains at ps gs [] (strict_grains (map (λ (p : Piece). p.grain) ps))
    (each gs (λ g m. has_piece ps g (grains-only (map (λ (p : Piece). p.grain) ps) g m)))
    (nothing gs)
  where
    each : (gs : List GrainId) → ((g : GrainId) → Member g gs → HasPiece ps g) → AllByRecursion (HasPiece ps) gs
    each [] h = tt
    each (g ∷ gs) h = (h g (inl refl), each gs (λ k m. h k (inr m)))

    nothing : (gs : List GrainId) → AllByRecursion (λ g. AllByRecursion (λ (x : FileWork). Before x.grain g) []) gs
    nothing [] = tt
    nothing (g ∷ gs) = (tt, nothing gs)
