-- Nothing is at fault exactly where the tree is a program: names, expressions, calls, statements.
use Rattle.std.proofs.Common.{◌≡◌, ◌≢◌, ℕ, Bool, true, false, List, [], ◌∷◌, length, nat_eq, Option, Some, None, refl, ap, ◌∙◌, ◌⊎◌, inl, inr}
use Rattle.std.specs.Prelude.{◌↔◌, bytes_eq, if◌then◌else◌}
use Rattle.std.specs.Bool.{Decides}
use Rattle.std.specs.List.{All, Contains}
use Rattle.std.proofs.lemmas.Slice.Eq.{bytes_eq-Decides}
use Rattle.std.proofs.lemmas.Cmp.{nat_list_eq_equiv}
use Rattle.std.proofs.lemmas.Bool.Decides.{Decides-eqb}
use Rattle.std.proofs.lemmas.Map.Views.{list_any-from_Contains, Contains-from_any}
use Rattle.std.proofs.lemmas.List.Elements.{All-nil, All-cons, All-head, All-tail}
use Rattle.script_tree.specs.declared.expressions.Name.{Name}
use Rattle.script_tree.specs.declared.options.MethodKind.{MethodKind}
use Rattle.script_tree.specs.declared.options.MethodKind.TheVariants.{Read, Update, Plain}
use Rattle.script_tree.specs.Exprs.{ExprTree, Constant, Variable, TheKey, Prefixed, Joined, CallTree}
use Rattle.script_tree.specs.Stmts.{SourceTree, Computed, Called, StmtTree, BlockTree, ElseTree, Bind, Rebind, SetField, Perform, Choose, Repeat, Give, FailWith, Try, NoMore, Then, NoElse, Else}
use Rattle.script_tree.specs.Programs.{MethodTree, TypeTree}
use Rattle.script_scopes.specs.declared.faults.CheckFault.{CheckFault}
use Rattle.script_scopes.specs.declared.faults.CheckFault.TheVariants.{UnknownName, TwiceNamed}
use Rattle.script_scopes.specs.FirstFaults.{FirstFault, ◌<|>◌}
use Rattle.script_scopes.specs.Names.{Scope, Setting, is_in, taken_fault, local_fault, reading_fault, writing_fault, variable_fault, assigned_fault, set_fault}
use Rattle.script_scopes.specs.Expressions.{expression_fault, arguments_fault, type_named, method_named, arity_fault, target_fault, call_fault}
use Rattle.script_scopes.specs.Statements.{source_fault, with_name, scope_after, statement_fault, block_fault, else_fault}
use Rattle.script_scopes.specs.Bodies.{IsVariable, IsNewLocal, IsExpressionInScope, IsCallInScope, IsSourceInScope, IsStatementInScope, IsBlockInScope, IsElseInScope}
use Rattle.script_scopes.proofs.Founds.{goes_on}

-- two pieces have no fault exactly where neither has
pub both : (a b : FirstFault) → (a <|> b) ≡ None → (a ≡ None) × (b ≡ None)
both None b e = (refl, e)
both (Some f) b e = absurd cc

pub pair_iff : {A B : Type 0} (a b : FirstFault) → ((a ≡ None) ↔ A) → ((b ≡ None) ↔ B) → ((a <|> b) ≡ None) ↔ (A × B)
pair_iff a b p q = ((λ e. let s = both a b e in (p.0 s.0, q.0 s.1)), (λ h. goes_on a b (p.1 h.0) ∙ q.1 h.1))

-- a test that must fail, and one that must hold
pub fails_iff : {P : Type 0} (b : Bool) (f : CheckFault) → Decides b P → ((if b then Some f else None) ≡ None) ↔ (¬ P)
fails_iff true f d = ((λ e. absurd cc), (λ n. absurd (n (d.0 refl))))
fails_iff false f d = ((λ e p. let h : false ≡ true = d.1 p in absurd cc), (λ n. refl))

pub holds_iff : {P : Type 0} (b : Bool) (f : CheckFault) → Decides b P → ((if b then None else Some f) ≡ None) ↔ P
holds_iff true f d = ((λ e. d.0 refl), (λ p. refl))
holds_iff false f d = ((λ e. absurd cc), (λ p. let h : false ≡ true = d.1 p in absurd cc))

-- whether a name stands for something
pub is_in-Decides : (scope : Scope) (name : List ℕ) → Decides (is_in scope name) (Contains scope name)
is_in-Decides scope name = (Contains-from_any {eq = bytes_eq} (λ x y. (bytes_eq-Decides x y).0) name scope, list_any-from_Contains {eq = bytes_eq} nat_list_eq_equiv name scope)

pub taken_iff : (scope : Scope) (name : Name) → (taken_fault scope name ≡ None) ↔ (¬ Contains scope name.text)
taken_iff scope name = fails_iff (is_in scope name.text) (TwiceNamed name.at) (is_in-Decides scope name.text)

pub local_iff : (setting : Setting) (scope : Scope) (name : Name) → (local_fault setting scope name ≡ None) ↔ IsNewLocal setting scope name
local_iff setting scope name = pair_iff (taken_fault setting.fields name) (taken_fault scope name) (taken_iff setting.fields name) (taken_iff scope name)

pub assigned_iff : (scope : Scope) (name : Name) → (assigned_fault scope name ≡ None) ↔ Contains scope name.text
assigned_iff scope name = holds_iff (is_in scope name.text) (UnknownName name.at) (is_in-Decides scope name.text)

-- a test that is decided, against what it is not
no : {P A : Type 0} (b : Bool) → b ≡ false → Decides b P → P → A
no b e d p = let h : b ≡ true = d.1 p in absurd cc

variable_cases : {P Q : Type 0} (b c : Bool) (kind : MethodKind) (at : ℕ) → Decides b P → Decides c Q → ((if b then None else (if c then reading_fault kind at else Some (UnknownName at))) ≡ None) ↔ (P ⊎ (Q × (kind ≢ Plain)))
variable_cases true c kind at d e = ((λ h. inl (d.0 refl)), (λ h. refl))
variable_cases {P} {Q} false false kind at d e = ((λ h. absurd cc), (λ h. elim h [ inl p ↦ no false refl d p | inr q ↦ no false refl e q.0 ]))
variable_cases {P} {Q} false true Plain at d e = ((λ h. absurd cc), (λ h. elim h [ inl p ↦ no false refl d p | inr q ↦ absurd (q.1 refl) ]))
variable_cases false true Read at d e = ((λ h. inr (e.0 refl, (λ k. absurd cc))), (λ h. refl))
variable_cases false true Update at d e = ((λ h. inr (e.0 refl, (λ k. absurd cc))), (λ h. refl))

pub variable_iff : (setting : Setting) (scope : Scope) (name : Name) → (variable_fault setting scope name ≡ None) ↔ IsVariable setting scope name
variable_iff setting scope name = variable_cases (is_in scope name.text) (is_in setting.fields name.text) setting.kind name.at (is_in-Decides scope name.text) (is_in-Decides setting.fields name.text)

set_cases : {Q : Type 0} (c : Bool) (kind : MethodKind) (at : ℕ) → Decides c Q → ((if c then writing_fault kind at else Some (UnknownName at)) ≡ None) ↔ (Q × (kind ≡ Update))
set_cases false kind at d = ((λ h. absurd cc), (λ h. no false refl d h.0))
set_cases true Plain at d = ((λ h. absurd cc), (λ h. let k = h.1 in absurd cc))
set_cases true Read at d = ((λ h. absurd cc), (λ h. let k = h.1 in absurd cc))
set_cases true Update at d = ((λ h. (d.0 refl, refl)), (λ h. refl))

pub set_iff : (setting : Setting) (name : Name) → (set_fault setting name ≡ None) ↔ (Contains setting.fields name.text × (setting.kind ≡ Update))
set_iff setting name = set_cases (is_in setting.fields name.text) setting.kind name.at (is_in-Decides setting.fields name.text)

-- nothing is at fault where there is nothing to be at fault
nothing_iff : ((let found : FirstFault = None in found) ≡ None) ↔ Unit {0}
nothing_iff = ((λ e. tt), (λ t. refl))

pub expression_iff : (setting : Setting) (scope : Scope) (e : ExprTree) → (expression_fault setting scope e ≡ None) ↔ IsExpressionInScope setting scope e
unfolding expression_fault IsExpressionInScope
expression_iff setting scope (Constant value) = nothing_iff
expression_iff setting scope (Variable name) = variable_iff setting scope name
expression_iff setting scope TheKey = nothing_iff
expression_iff setting scope (Prefixed op of) = expression_iff setting scope of
expression_iff setting scope (Joined op left right) = pair_iff (expression_fault setting scope left) (expression_fault setting scope right) (expression_iff setting scope left) (expression_iff setting scope right)

pub arguments_iff : (setting : Setting) (scope : Scope) (args : List ExprTree) → (arguments_fault setting scope args ≡ None) ↔ All (IsExpressionInScope setting scope) args
unfolding arguments_fault
arguments_iff setting scope [] = ((λ e. All-nil (IsExpressionInScope setting scope)), (λ h. refl))
arguments_iff setting scope (x ∷ xs) =
    let p = pair_iff (expression_fault setting scope x) (arguments_fault setting scope xs) (expression_iff setting scope x) (arguments_iff setting scope xs) in
    ((λ e. let s = p.0 e in All-cons (IsExpressionInScope setting scope) x xs s.0 s.1), (λ h. p.1 (All-head (IsExpressionInScope setting scope) x xs h, All-tail (IsExpressionInScope setting scope) x xs h)))

-- the method of a call
arity_right : (call : CallTree) (found : Option MethodTree) → arity_fault call found ≡ None → (m : MethodTree) × (found ≡ Some m) × (length call.args ≡ length m.params)
arity_right call None e = absurd cc
arity_right call (Some m) e = (m, refl, (holds_iff (nat_eq (length call.args) (length m.params)) _ (Decides-eqb (length call.args) (length m.params))).0 e)

arity_back : (call : CallTree) (found : Option MethodTree) (m : MethodTree) → found ≡ Some m → length call.args ≡ length m.params → arity_fault call found ≡ None
arity_back call found m e a = ap (arity_fault call) e ∙ (holds_iff (nat_eq (length call.args) (length m.params)) _ (Decides-eqb (length call.args) (length m.params))).1 a

call_right : (setting : Setting) (scope : Scope) (call : CallTree) (found : Option TypeTree) → type_named setting.types call.target.text ≡ found → target_fault setting scope call found ≡ None → IsCallInScope setting scope call
call_right setting scope call None is e = absurd cc
call_right setting scope call (Some t) is e =
    let outer = both (expression_fault setting scope call.place <|> arity_fault call (method_named t.methods call.method.text)) (arguments_fault setting scope call.args) e in
    let inner = both (expression_fault setting scope call.place) (arity_fault call (method_named t.methods call.method.text)) outer.0 in
    let m = arity_right call (method_named t.methods call.method.text) inner.1 in
    record { target = t; is_target = is; method = m.0; is_method = m.1; arity = m.2; place = (expression_iff setting scope call.place).0 inner.0; args = (arguments_iff setting scope call.args).0 outer.1 }

pub call_iff : (setting : Setting) (scope : Scope) (call : CallTree) → (call_fault setting scope call ≡ None) ↔ IsCallInScope setting scope call
unfolding call_fault
call_iff setting scope call = (
  (λ e. call_right setting scope call (type_named setting.types call.target.text) refl e),
  (λ h. ap (target_fault setting scope call) h.is_target
      ∙ goes_on (expression_fault setting scope call.place <|> arity_fault call (method_named h.target.methods call.method.text)) _
      (goes_on (expression_fault setting scope call.place) _ ((expression_iff setting scope call.place).1 h.place) ∙ arity_back call (method_named h.target.methods call.method.text) h.method h.is_method h.arity)
      ∙ (arguments_iff setting scope call.args).1 h.args),
)

pub source_iff : (setting : Setting) (scope : Scope) (s : SourceTree) → (source_fault setting scope s ≡ None) ↔ IsSourceInScope setting scope s
unfolding source_fault IsSourceInScope
source_iff setting scope (Computed value) = expression_iff setting scope value
source_iff setting scope (Called call) = call_iff setting scope call

mutual
  unfolding statement_fault IsStatementInScope

  pub statement_iff : (setting : Setting) (scope : Scope) (s : StmtTree) → (statement_fault setting scope s ≡ None) ↔ IsStatementInScope setting scope s
  statement_iff setting scope (Bind name value) = pair_iff (local_fault setting scope name) (source_fault setting scope value) (local_iff setting scope name) (source_iff setting scope value)
  statement_iff setting scope (Rebind name value) = pair_iff (assigned_fault scope name) (source_fault setting scope value) (assigned_iff scope name) (source_iff setting scope value)
  statement_iff setting scope (SetField name value) = pair_iff (set_fault setting name) (expression_fault setting scope value) (set_iff setting name) (expression_iff setting scope value)
  statement_iff setting scope (Perform call) = call_iff setting scope call
  statement_iff setting scope (Choose test block other) =
      pair_iff (expression_fault setting scope test <|> block_fault setting scope block) (else_fault setting scope other)
      (pair_iff (expression_fault setting scope test) (block_fault setting scope block) (expression_iff setting scope test) (block_iff setting scope block))
      (else_iff setting scope other)
  statement_iff setting scope (Repeat test block) = pair_iff (expression_fault setting scope test) (block_fault setting scope block) (expression_iff setting scope test) (block_iff setting scope block)
  statement_iff setting scope (Give value) = expression_iff setting scope value
  statement_iff setting scope (FailWith text) = nothing_iff
  statement_iff setting scope (Try at name call block other) =
      pair_iff (local_fault setting scope name <|> call_fault setting scope call <|> block_fault setting (with_name scope name) block) (block_fault setting (with_name scope name) other)
      (pair_iff (local_fault setting scope name <|> call_fault setting scope call) (block_fault setting (with_name scope name) block)
      (pair_iff (local_fault setting scope name) (call_fault setting scope call) (local_iff setting scope name) (call_iff setting scope call))
      (block_iff setting (with_name scope name) block))
      (block_iff setting (with_name scope name) other)

  pub block_iff : (setting : Setting) (scope : Scope) (b : BlockTree) → (block_fault setting scope b ≡ None) ↔ IsBlockInScope setting scope b
  block_iff setting scope NoMore = nothing_iff
  block_iff setting scope (Then first rest) = pair_iff (statement_fault setting scope first) (block_fault setting (scope_after scope first) rest) (statement_iff setting scope first) (block_iff setting (scope_after scope first) rest)

  pub else_iff : (setting : Setting) (scope : Scope) (o : ElseTree) → (else_fault setting scope o ≡ None) ↔ IsElseInScope setting scope o
  else_iff setting scope NoElse = nothing_iff
  else_iff setting scope (Else block) = block_iff setting scope block
