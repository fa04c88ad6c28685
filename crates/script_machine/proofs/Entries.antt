-- A called method's frame.
use Rattle.std.proofs.Common.{◌≡◌, ℕ, suc, ◌-◌, List, [], ◌∷◌, length, drop, min, ◌⊎◌, inl, inr, Bool, true, refl, sym, ap, ◌∙◌, arith}
use Rattle.std.specs.Prelude.{slice_get}
use Rattle.std.proofs.lemmas.List.{drop_all}
use Rattle.base_types.specs.declared.calls.Value.{Value}
use Rattle.script_tree.specs.declared.expressions.Name.{Name}
use Rattle.script_tree.specs.declared.options.MethodKind.{MethodKind}
use Rattle.script_tree.specs.declared.options.MethodKind.TheVariants as does
use Rattle.script_tree.specs.declared.options.Entered.{Entered}
use Rattle.script_tree.specs.declared.options.Entered.TheVariants.{Joined, NewUnit, Plain}
use Rattle.script_tree.specs.Stmts.{BlockTree}
use Rattle.script_tree.specs.Programs.{ProgramTree}
use Rattle.script_holding.specs.Limits.{depth_limit}
use Rattle.script_holding.specs.Holding.{Holding}
use Rattle.script_meaning.specs.Requests.{Requests, Back, Caught}
use Rattle.script_meaning.specs.Calls.{bound, enters, in_own_unit, joined}
use Rattle.script_meaning.specs.Statements.{runs, deep}
use Rattle.script_machine.specs.declared.callees.Callee.{Callee}
use Rattle.script_machine.specs.Callees.{IsThere, target_of, post_of}
use Rattle.script_machine.specs.declared.frames.Frame.{Frame}
use Rattle.script_machine.specs.Frames.{begins, body_of, fields_of, from_at, gives_zero, goes_on, runner_of, site_of}

module _ (types : ProgramTree) (callee : Callee) (args : List Value) (back : Back) (caught : Caught) (has : Holding) where
  -- a call, where so many frames may be open from its own on
  abbrev entered_as : ℕ → Entered → ℕ → Requests
  entered_as n way at = enters (deep types n) way at callee.grain (target_of callee) args back caught has

  -- a unit of its own
  pub enters_unit : (n at : ℕ) → n ≡ suc (depth_limit - at) → entered_as n NewUnit at ≡ in_own_unit (record { grain = callee.grain; method = callee.number; args = args }) at back caught has
  enters_unit n at e = ap (λ k. entered_as k NewUnit at) e

  -- a frame outside the transaction
  pub enters_plain : (n at : ℕ) (context : Bool) → n ≡ suc (depth_limit - at) → IsThere types callee → entered_as n (Plain context) at ≡ begins types (post_of callee does.Plain context at) (target_of callee) args back has
  enters_plain n at context e there =
      ap (λ k. entered_as k (Plain context) at) e
      ∙ ap (λ fields. runs types (deep types (depth_limit - at)) (record { fields = fields; kind = does.Plain; grain = callee.grain; context = context; depth = at }) back (target_of callee).method.body (gives_zero back) (bound (target_of callee).method.params args) has)
      (sym (ap fields_of there.of_type))

  -- a frame within it, which is locked first
  pub enters_joined : (n at : ℕ) → n ≡ suc (depth_limit - at) → IsThere types callee →
      entered_as n Joined at ≡ joined (target_of callee).method.kind callee.grain (fields_of (slice_get types callee.grain.kind)) (begins types (post_of callee (target_of callee).method.kind true at) (target_of callee) args back) has
  enters_joined n at e there =
      ap (λ k. entered_as k Joined at) e
      ∙ ap (λ fields. joined (target_of callee).method.kind callee.grain fields (λ has. runs types (deep types (depth_limit - at)) (record { fields = fields; kind = (target_of callee).method.kind; grain = callee.grain; context = true; depth = at }) back (target_of callee).method.body (gives_zero back) (bound (target_of callee).method.params args) has) has)
      (sym (ap fields_of there.of_type))

-- a frame that begins goes on from its method's first statement
pub begins_goes : (types : ProgramTree) (callee : Callee) (kind : MethodKind) (context : Bool) (at : ℕ) (args : List Value) (back : Back) (has : Holding) (frame : Frame) → IsThere types callee →
    frame.post ≡ post_of callee kind context at → frame.locals.items ≡ bound (target_of callee).method.params args → frame.path.items ≡ [] → frame.at ≡ 0 →
    begins types (post_of callee kind context at) (target_of callee) args back has ≡ goes_on types frame back has
begins_goes types callee kind context at args back has frame there post locals path zero =
    let p = post_of callee kind context at in
    ap (λ (body : BlockTree). runs types (runner_of types p) (site_of types p) back body (gives_zero back) (bound (target_of callee).method.params args) has) (sym (ap body_of there.target))
    ∙ (λ j. from_at types (sym post j) back (sym path j) (sym zero j) (sym locals j) has)

-- without arguments there is nothing to bind
bound_none : (names : List Name) → bound names [] ≡ []
bound_none [] = refl
bound_none (name ∷ names) = refl

-- and at the end of one list nothing is left to bind
pub bound_end : (n : ℕ) (names : List Name) (values : List Value) → (n ≡ length names) ⊎ (n ≡ length values) → bound (drop n names) (drop n values) ≡ []
bound_end n names values (inl e) = ap (λ (l : List Name). bound l (drop n values)) (drop_all n names (omega (arith, e)))
bound_end n names values (inr e) = ap (bound (drop n names)) (drop_all n values (omega (arith, e))) ∙ bound_none (drop n names)

-- the lesser of two numbers is one of them
pub min_is_one : (a b : ℕ) → (min a b ≡ a) ⊎ (min a b ≡ b)
min_is_one a b = grind arith
