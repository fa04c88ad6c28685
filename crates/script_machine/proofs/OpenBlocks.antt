-- The open blocks of a frame, where one more is gone into or one is left.
use Rattle.std.proofs.Common.{◌≡◌, List, [], ◌∷◌, ◌++◌, map, refl, sym, ap, ◌∙◌, Bor}
use Rattle.std.specs.List.{fold}
use Rattle.std.proofs.lemmas.List.{map-append}
use Rattle.std.proofs.lemmas.List.Sums.{fold_push}
use Rattle.script_tree.specs.declared.statements.Stmt.{Stmt}
use Rattle.script_tree.specs.Stmts.{BlockTree}
use Rattle.script_machine.specs.declared.frames.OpenBlock.{OpenBlock}
use Rattle.script_machine.specs.Blocks.{inner}
use Rattle.script_machine.specs.OpenBlocks.{AreOpen, block_in_code, blocks_around}

-- what borrowed blocks hold
abbrev pub seen : List (Bor (List Stmt)) → List (List Stmt)
seen outside = map (λ (block : Bor (List Stmt)). block.now) outside

-- one more open block: the innermost before it is one more around
blocks_push : (whole : BlockTree) (path : List OpenBlock) (one : OpenBlock) → blocks_around whole (path ++ one ∷ []) ≡ blocks_around whole path ++ fold inner whole path ∷ []
blocks_push whole [] one = refl
blocks_push whole (first ∷ rest) one = ap (λ (l : List BlockTree). whole ∷ l) (blocks_push (inner whole first) rest one)

-- the same as the code keeps them
seen_push : (outside : List (Bor (List Stmt))) (block : Bor (List Stmt)) → map block_in_code (seen (outside ++ block ∷ [])) ≡ map block_in_code (seen outside) ++ block_in_code block.now ∷ []
seen_push outside block =
    ap (map block_in_code) (map-append (λ (b : Bor (List Stmt)). b.now) outside (block ∷ []))
    ∙ map-append block_in_code (seen outside) (block.now ∷ [])

-- so a block within the innermost is gone into
pub open_push : (whole : BlockTree) (path : List OpenBlock) (one : OpenBlock) (outside : List (Bor (List Stmt))) (block : Bor (List Stmt)) (further : List Stmt) → AreOpen whole path (seen outside) block.now → block_in_code further ≡ inner (block_in_code block.now) one →
    AreOpen whole (path ++ one ∷ []) (seen (outside ++ block ∷ [])) further
open_push whole path one outside block further are within =
    record {
      around = seen_push outside block ∙ (λ j. are.around j ++ are.block j ∷ []) ∙ sym (blocks_push whole path one);
      block = within ∙ ap (λ (b : BlockTree). inner b one) are.block ∙ sym (fold_push inner whole path one);
    }

-- a list with a last item is not empty
no_push : (xs : List BlockTree) (x : BlockTree) → ◌≡◌ {A = List BlockTree} [] (xs ++ x ∷ []) → ⊥
no_push [] x e = absurd (cc)
no_push (first ∷ xs) x e = absurd (cc)

-- two lists with a last item are equal item by item
last_same : (xs ys : List BlockTree) (x y : BlockTree) → xs ++ x ∷ [] ≡ ys ++ y ∷ [] → (xs ≡ ys) × (x ≡ y)
last_same [] [] x y e = let same : x ≡ y = cc in (refl, same)
last_same [] (b ∷ ys) x y e = let rest : ◌≡◌ {A = List BlockTree} [] (ys ++ y ∷ []) = cc in absurd (no_push ys y rest)
last_same (a ∷ xs) [] x y e = let rest : ◌≡◌ {A = List BlockTree} [] (xs ++ x ∷ []) = cc in absurd (no_push xs x rest)
last_same (a ∷ xs) (b ∷ ys) x y e =
    let first : a ≡ b = cc in
    let rest : xs ++ x ∷ [] ≡ ys ++ y ∷ [] = cc in
    let both = last_same xs ys x y rest in
    ((λ j. first j ∷ both.0 j), both.1)

-- the innermost block is left
pub open_pop : (whole : BlockTree) (path : List OpenBlock) (one : OpenBlock) (outside : List (Bor (List Stmt))) (block : Bor (List Stmt)) (further : List Stmt) → AreOpen whole (path ++ one ∷ []) (seen (outside ++ block ∷ [])) further →
    AreOpen whole path (seen outside) block.now
open_pop whole path one outside block further are =
    let both = last_same (map block_in_code (seen outside)) (blocks_around whole path) (block_in_code block.now) (fold inner whole path) (sym (seen_push outside block) ∙ are.around ∙ blocks_push whole path one) in
    record { around = both.0; block = both.1 }

-- where a block is open there is one around
pub open_none : (whole : BlockTree) (path : List OpenBlock) (one : OpenBlock) (further : List Stmt) → AreOpen whole (path ++ one ∷ []) [] further → ⊥
open_none whole path one further are = no_push (blocks_around whole path) (fold inner whole path) (are.around ∙ blocks_push whole path one)
