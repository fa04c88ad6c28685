-- The statement at which a frame stands, and what follows it.
use Rattle.std.proofs.Common.{◌≡◌, ℕ, zero, suc, ◌+◌, ◌<◌, List, [], ◌∷◌, ◌++◌, length, drop, Option, Some, None, refl, sym, ap, ◌∙◌, subst, arith, drop-cons, add-one, inl, inr}
use Rattle.std.specs.Prelude.{slice_get, option_map, ◌^◌}
use Rattle.std.specs.List.{fold}
use Rattle.std.proofs.lemmas.List.{drop_all}
use Rattle.std.proofs.lemmas.List.Sums.{fold_push}
use Rattle.std.proofs.lemmas.Option.{slice_get_within, get_or_from_slice_get, slice_get_cases}
use Rattle.base_types.specs.declared.calls.Value.{Value}
use Rattle.script_tree.specs.declared.statements.Stmt.{Stmt}
use Rattle.script_tree.specs.Exprs.{CallTree}
use Rattle.script_tree.specs.Stmts.{Computed, Called, StmtTree, Bind, Rebind, SetField, Perform, Choose, Repeat, Give, FailWith, Try, BlockTree, NoMore, Then, stmt_tree, stmt_trees, block_tree}
use Rattle.script_tree.specs.Programs.{ProgramTree}
use Rattle.script_values.specs.Expressions.{Locals, put_local}
use Rattle.script_holding.specs.Holding.{Holding}
use Rattle.base_types.specs.declared.calls.Value.TheVariants.{Text}
use Rattle.base_types.specs.declared.calls.Outcome.TheVariants.{Fault}
use Rattle.script_meaning.specs.Requests.{Back, End, stop}
use Rattle.script_meaning.specs.Calls.{Site, Runner}
use Rattle.script_meaning.specs.Statements.{Next, takes_step, does, runs, calls}
use Rattle.script_machine.specs.declared.frames.Post.{Post}
use Rattle.script_machine.specs.declared.frames.OpenBlock.{OpenBlock}
use Rattle.script_machine.specs.Blocks.{from, first_in, statement_at, part_of, part_at, inner, outer, follows, beyond, received, caught}
use Rattle.script_machine.specs.declared.runs.Run.{Run}
use Rattle.script_machine.specs.Runs.{StandsAt, StandsWith, call_in, calls_here, does_here, back_of, back_here, caught_here, received_here, refused_here, next_here, running}
use Rattle.script_machine.specs.Frames.{block_of, site_of, runner_of, body_at, gives_zero, block_in, after, from_at}

-- a block that the code holds, from a place on
from_drop : (i : ℕ) (stmts : List Stmt) → from i (block_tree (stmt_trees stmts)) ≡ block_tree (stmt_trees (drop i stmts))
from_drop zero stmts = refl
from_drop (suc i) [] = refl
from_drop (suc i) (first ∷ rest) = from_drop i rest

-- the statement at a place of it
pub found_at : (stmts : List Stmt) (i : ℕ) (stmt : Stmt) → slice_get stmts i ≡ Some stmt →
    from i (block_tree (stmt_trees stmts)) ≡ Then (stmt_tree stmt) (from (i + 1) (block_tree (stmt_trees stmts)))
found_at stmts i stmt found =
    let within = slice_get_within stmts i stmt found in
    from_drop i stmts
    ∙ ap (λ (l : List Stmt). block_tree (stmt_trees l)) (drop-cons stmts i stmt within)
    ∙ ap (λ (s : Stmt). Then (stmt_tree s) (block_tree (stmt_trees (drop (suc i) stmts)))) (get_or_from_slice_get stmts i stmt stmt found)
    ∙ ap (Then (stmt_tree stmt)) (sym (from_drop (suc i) stmts))
    ∙ ap (λ n. Then (stmt_tree stmt) (from n (block_tree (stmt_trees stmts)))) (sym (add-one i))

-- and no statement past its end
pub past_end : (stmts : List Stmt) (i : ℕ) → slice_get stmts i ≡ None → from i (block_tree (stmt_trees stmts)) ≡ NoMore
past_end stmts i none =
    elim (slice_get_cases stmts i).1 [
      | inl found ↦ let e : Some found.0 ≡ None = sym found.2 ∙ none in absurd (cc)
      | inr past ↦ from_drop i stmts ∙ ap (λ (l : List Stmt). block_tree (stmt_trees l)) (drop_all i stmts past.0)
    ]

-- the statement at a place, as the code looks it up
map_at : (stmts : List Stmt) (i : ℕ) (found : Option Stmt) → slice_get stmts i ≡ found → option_map stmt_tree found ≡ statement_at i (block_tree (stmt_trees stmts))
map_at stmts i None e = sym (ap first_in (past_end stmts i e))
map_at stmts i (Some stmt) e = sym (ap first_in (found_at stmts i stmt e))

-- so the code finds what the block has
pub statement_map : (stmts : List Stmt) (i : ℕ) → option_map stmt_tree (slice_get stmts i) ≡ statement_at i (block_tree (stmt_trees stmts))
statement_map stmts i = map_at stmts i (slice_get stmts i) refl

-- where the topmost frame stands, as the code looks it up in its innermost block
stands_with : (types : ProgramTree) (run : Run) (stmts : List Stmt) (found : Option Stmt) → slice_get stmts run.top.at ≡ found → block_tree (stmt_trees stmts) ≡ block_of types run.top → length stmts < 2 ^ 63 → StandsWith types run found
stands_with types run stmts None e block small = subst (λ (b : BlockTree). from run.top.at b ≡ NoMore) block (past_end stmts run.top.at e)
stands_with types run stmts (Some stmt) e block small =
    let within = slice_get_within stmts run.top.at stmt e in
    record { here = subst (λ (b : BlockTree). from run.top.at b ≡ Then (stmt_tree stmt) (from (run.top.at + 1) b)) block (found_at stmts run.top.at stmt e); small = omega (arith, within, small) }

-- so the code finds where the frame stands
pub stands_where : (types : ProgramTree) (run : Run) (stmts : List Stmt) → block_tree (stmt_trees stmts) ≡ block_of types run.top → length stmts < 2 ^ 63 → StandsWith types run (slice_get stmts run.top.at)
stands_where types run stmts block small = stands_with types run stmts (slice_get stmts run.top.at) refl block small

-- past the end there is nothing further on
past_next : (i : ℕ) (block : BlockTree) → from i block ≡ NoMore → from (suc i) block ≡ NoMore
past_next zero NoMore past = refl
past_next zero (Then first rest) past = absurd (cc)
past_next (suc i) NoMore past = refl
past_next (suc i) (Then first rest) past = past_next i rest past

-- the same, as the code counts
pub from_past : (i : ℕ) (block : BlockTree) → from i block ≡ NoMore → from (i + 1) block ≡ NoMore
from_past i block past = ap (λ n. from n block) (add-one i) ∙ past_next i block past

module _ (types : ProgramTree) (runner : Runner) (site : Site) (back : Back) where
  -- one block further in
  beyond_push : (block : BlockTree) (next : Next) (path : List OpenBlock) (one : OpenBlock) → beyond types runner site back block next (path ++ one ∷ []) ≡ follows types runner site back (fold inner block path) (beyond types runner site back block next path) one
  beyond_push block next [] one = refl
  beyond_push block next (first ∷ rest) one = beyond_push (inner block first) (follows types runner site back block next first) rest one

module _ (types : ProgramTree) (post : Post) (back : Back) where
  abbrev runner : Runner
  runner = runner_of types post

  abbrev site : Site
  site = site_of types post

  -- one block further in
  block_push : (path : List OpenBlock) (one : OpenBlock) → block_in types post back (path ++ one ∷ []) ≡ inner (block_in types post back path) one
  block_push path one = fold_push inner (body_at types post) path one

  pub after_push : (path : List OpenBlock) (one : OpenBlock) → after types post back (path ++ one ∷ []) ≡ outer types runner site back (statement_at one.at (block_in types post back path)) (from_at types post back path (one.at + 1))
  after_push path one = beyond_push types runner site back (body_at types post) (gives_zero back) path one

  -- a frame that goes into a block of its statement
  pub goes_into : (path : List OpenBlock) (one : OpenBlock) (stmt : StmtTree) → statement_at one.at (block_in types post back path) ≡ Some stmt →
      from_at types post back (path ++ one ∷ []) 0 ≡ runs types runner site back (part_of one.part stmt) (outer types runner site back (Some stmt) (from_at types post back path (one.at + 1)))
  goes_into path one stmt here =
      let block = block_push path one ∙ ap (part_at one.part) here in
      let behind = after_push path one ∙ ap (λ (o : Option StmtTree). outer types runner site back o (from_at types post back path (one.at + 1))) here in
      λ j. runs types runner site back (block j) (behind j)

  -- a frame at the end of its innermost block
  pub stands_past : (path : List OpenBlock) (i : ℕ) → from i (block_in types post back path) ≡ NoMore → from_at types post back path i ≡ after types post back path
  stands_past path i past = ap (λ (b : BlockTree). runs types runner site back b (after types post back path)) past

-- behind a block whose statement isn't there
pub outer_past : (types : ProgramTree) (post : Post) (back : Back) (path : List OpenBlock) (i : ℕ) → from i (block_in types post back path) ≡ NoMore →
    outer types (runner_of types post) (site_of types post) back (statement_at i (block_in types post back path)) (from_at types post back path (i + 1)) ≡ from_at types post back path i
outer_past types post back path i past =
    ap (λ (o : Option StmtTree). outer types (runner_of types post) (site_of types post) back o (from_at types post back path (i + 1))) (ap first_in past)
    ∙ stands_past types post back path (i + 1) (from_past i (block_in types post back path) past)
    ∙ sym (stands_past types post back path i past)

-- a frame that stands at a statement: what its call's value is followed by, and the fault of a unit of its own
pub receives_at : (types : ProgramTree) (run : Run) (stmt : StmtTree) → StandsAt types run stmt → back_here types run ≡ received_here types run stmt
receives_at types run stmt stands =
    ap (λ (o : Option StmtTree). λ value. received types (runner_of types run.top.post) (site_of types run.top.post) (back_of types run) o (next_here types run) value run.top.locals.items) (ap first_in stands.here)

-- and the fault of a unit of its own
pub catches_at : (types : ProgramTree) (run : Run) (stmt : StmtTree) → StandsAt types run stmt → caught_here types run ≡ refused_here types run stmt
catches_at types run stmt stands =
    ap (λ (o : Option StmtTree). λ text. caught types (runner_of types run.top.post) (site_of types run.top.post) (back_of types run) o (next_here types run) text run.top.locals.items) (ap first_in stands.here)

-- and where it stands at none
pub receives_past : (types : ProgramTree) (run : Run) → from run.top.at (block_of types run.top) ≡ NoMore → (value : Value) → back_here types run value run.has ≡ running types run
receives_past types run past value =
    let post = run.top.post in
    let back = back_of types run in
    let path = run.top.path.items in
    ap (λ (o : Option StmtTree). received types (runner_of types post) (site_of types post) back o (next_here types run) value run.top.locals.items run.has) (ap first_in past)
    ∙ ap (λ (k : Next). k run.top.locals.items run.has) (stands_past types post back path (run.top.at + 1) (from_past run.top.at (block_of types run.top) past) ∙ sym (stands_past types post back path run.top.at past))

-- and the fault ends the unit
pub catches_past : (types : ProgramTree) (run : Run) → from run.top.at (block_of types run.top) ≡ NoMore → (text : List ℕ) → caught_here types run text run.has ≡ End (Fault text) run.has
catches_past types run past text =
    ap (λ (o : Option StmtTree). caught types (runner_of types run.top.post) (site_of types run.top.post) (back_of types run) o (next_here types run) text run.top.locals.items run.has) (ap first_in past)

-- the statement at which a frame stands: a step, and what it does
pub begins_at : (types : ProgramTree) (run : Run) (stmt : StmtTree) → StandsAt types run stmt →
    running types run ≡ takes_step (does types (runner_of types run.top.post) (site_of types run.top.post) (back_of types run) stmt (next_here types run)) run.top.locals.items run.has
begins_at types run stmt stands =
    ap (λ (b : BlockTree). runs types (runner_of types run.top.post) (site_of types run.top.post) (back_of types run) b (after types run.top.post (back_of types run) run.top.path.items) run.top.locals.items run.has) stands.here

-- one call is the other
same_call : (one other : CallTree) → Some one ≡ Some other → one ≡ other
same_call one other e = cc

-- no call is not one
no_call : (call : CallTree) → ◌≡◌ {A = Option CallTree} None (Some call) → ⊥
no_call call e = absurd (cc)

-- a statement that makes a call does it
pub does_call : (types : ProgramTree) (deeper : Runner) (place : Site) (back : Back) (stmt : StmtTree) (call : CallTree) → call_in stmt ≡ Some call → (next : Next) (locals : Locals) (has : Holding) →
    does types deeper place back stmt next locals has
    ≡ calls types deeper place back call (λ value. received types deeper place back (Some stmt) next value locals) (λ text. caught types deeper place back (Some stmt) next text locals) locals has
does_call types deeper place back (Bind name (Called one)) call e next locals has = ap (λ (x : CallTree). calls types deeper place back x (λ value. next (put_local name.text value locals)) stop locals has) (same_call one call e)
does_call types deeper place back (Rebind name (Called one)) call e next locals has = ap (λ (x : CallTree). calls types deeper place back x (λ value. next (put_local name.text value locals)) stop locals has) (same_call one call e)
does_call types deeper place back (Perform one) call e next locals has = ap (λ (x : CallTree). calls types deeper place back x (λ value. next locals) stop locals has) (same_call one call e)
does_call types deeper place back (Try at name one block other) call e next locals has =
    ap (λ (x : CallTree). calls types deeper place back x (λ value. runs types deeper place back block next (put_local name.text value locals)) (λ text. runs types deeper place back other next (put_local name.text (Text text) locals)) locals has) (same_call one call e)
does_call types deeper place back (Bind name (Computed value)) call e next locals has = absurd (no_call call e)
does_call types deeper place back (Rebind name (Computed value)) call e next locals has = absurd (no_call call e)
does_call types deeper place back (SetField name value) call e next locals has = absurd (no_call call e)
does_call types deeper place back (Choose test block other) call e next locals has = absurd (no_call call e)
does_call types deeper place back (Repeat test block) call e next locals has = absurd (no_call call e)
does_call types deeper place back (Give value) call e next locals has = absurd (no_call call e)
does_call types deeper place back (FailWith text) call e next locals has = absurd (no_call call e)

-- the same from the topmost frame
pub does_call_here : (types : ProgramTree) (run : Run) (stmt : StmtTree) (call : CallTree) → StandsAt types run stmt → call_in stmt ≡ Some call →
    does_here types run stmt ≡ calls_here types run call (back_here types run) (caught_here types run)
does_call_here types run stmt call stands e =
    does_call types (runner_of types run.top.post) (site_of types run.top.post) (back_of types run) stmt call e (next_here types run) run.top.locals.items run.has
    ∙ (λ j. calls_here types run call (sym (receives_at types run stmt stands) j) (sym (catches_at types run stmt stands) j))
