-- The fault that is named is the first of the text.
use Rattle.std.proofs.Common.{◌≡◌, ◌≢◌, ℕ, Bool, true, false, List, [], ◌∷◌, ◌++◌, map, length, nat_le, nat_eq, Option, Some, None, refl, ap, subst, ◌∙◌}
use Rattle.std.specs.Prelude.{if◌then◌else◌}
use Rattle.std.specs.List.{All}
use Rattle.std.proofs.lemmas.List.Elements.{All-nil, All-cons}
use Rattle.script_tree.specs.declared.expressions.Name.{Name}
use Rattle.script_tree.specs.declared.options.MethodKind.{MethodKind}
use Rattle.script_tree.specs.declared.options.MethodKind.TheVariants.{Read, Update, Plain}
use Rattle.script_tree.specs.declared.options.TxnOption.{TxnOption}
use Rattle.script_tree.specs.declared.options.TxnOption.TheVariants.{Create, Join, CreateOrJoin, Suppress, Supported, NotAllowed}
use Rattle.script_tree.specs.Exprs.{ExprTree, Constant, Variable, TheKey, Prefixed, Joined, CallTree}
use Rattle.script_tree.specs.Stmts.{SourceTree, Computed, Called, StmtTree, BlockTree, ElseTree, Bind, Rebind, SetField, Perform, Choose, Repeat, Give, FailWith, Try, NoMore, Then, NoElse, Else}
use Rattle.script_tree.specs.Programs.{MethodTree, TypeTree, ProgramTree}
use Rattle.script_scopes.specs.declared.faults.CheckFault.{CheckFault}
use Rattle.script_scopes.specs.declared.faults.CheckFault.TheVariants.{UnknownName, TwiceNamed, Arity, TooMany, Memory}
use Rattle.script_scopes.specs.FirstFaults.{FirstFault, ◌<|>◌, Fails}
use Rattle.script_scopes.specs.Names.{Scope, Setting, is_in, taken_fault, room_fault, local_fault, reading_fault, writing_fault, variable_fault, assigned_fault, set_fault}
use Rattle.script_scopes.specs.Expressions.{expression_fault, arguments_fault, type_named, method_named, arity_fault, target_fault, call_fault}
use Rattle.script_scopes.specs.Statements.{source_fault, with_name, scope_after, statement_fault, block_fault, else_fault}
use Rattle.script_check.specs.Programs.{option_fault, transaction_fault, each_fault, declared_fault, field_fault, parameter_fault, method_fault, field_names, type_fault, program_fault}
use Rattle.script_check.specs.Mentions.{Mention, at_name, expression_names, argument_names, type_known, methods_of, target_names, call_names, source_names, statement_names, block_names, else_names, each_names, field_mention, parameter_mention, method_mentions, type_mentions, program_names, check_fault_place, IsFirstFault}
use Rattle.script_scopes.proofs.Founds.{fails_some}

-- the first fault of names one after another
pub first_fault : List Mention → FirstFault
first_fault [] = None
first_fault (m ∷ ms) = m.fault <|> first_fault ms

associates : (a b c : FirstFault) → (a <|> (b <|> c)) ≡ ((a <|> b) <|> c)
associates None b c = refl
associates (Some f) b c = refl

alone : (a : FirstFault) → (a <|> None) ≡ a
alone None = refl
alone (Some f) = refl

-- a fault, where there is one, names this place
abbrev pub IsAt : ℕ → FirstFault → Type 0
IsAt at None = Unit {0}
IsAt at (Some fault) = check_fault_place fault ≡ at

at_both : (at : ℕ) (a b : FirstFault) → IsAt at a → IsAt at b → IsAt at (a <|> b)
at_both at None b h k = k
at_both at (Some f) b h k = h

at_test : (at : ℕ) (b : Bool) (x y : FirstFault) → IsAt at x → IsAt at y → IsAt at (if b then x else y)
at_test at true x y h k = h
at_test at false x y h k = k

taken_at : (scope : Scope) (name : Name) → IsAt name.at (taken_fault scope name)
taken_at scope name = at_test name.at (is_in scope name.text) (Some (TwiceNamed name.at)) None refl tt

room_at : (limit : ℕ) (before : Scope) (name : Name) → IsAt name.at (room_fault limit before name)
room_at limit before name = at_test name.at (nat_le limit (length before)) (Some (TooMany name.at)) None refl tt

local_at : (setting : Setting) (scope : Scope) (name : Name) → IsAt name.at (local_fault setting scope name)
local_at setting scope name = at_both name.at (taken_fault setting.fields name) (taken_fault scope name) (taken_at setting.fields name) (taken_at scope name)

reading_at : (kind : MethodKind) (at : ℕ) → IsAt at (reading_fault kind at)
reading_at Plain at = refl
reading_at Read at = tt
reading_at Update at = tt

writing_at : (kind : MethodKind) (at : ℕ) → IsAt at (writing_fault kind at)
writing_at Plain at = refl
writing_at Read at = refl
writing_at Update at = tt

variable_at : (setting : Setting) (scope : Scope) (name : Name) → IsAt name.at (variable_fault setting scope name)
variable_at setting scope name =
    at_test name.at (is_in scope name.text) None (if is_in setting.fields name.text then reading_fault setting.kind name.at else Some (UnknownName name.at)) tt
    (at_test name.at (is_in setting.fields name.text) (reading_fault setting.kind name.at) (Some (UnknownName name.at)) (reading_at setting.kind name.at) refl)

assigned_at : (scope : Scope) (name : Name) → IsAt name.at (assigned_fault scope name)
assigned_at scope name = at_test name.at (is_in scope name.text) None (Some (UnknownName name.at)) tt refl

set_at : (setting : Setting) (name : Name) → IsAt name.at (set_fault setting name)
set_at setting name = at_test name.at (is_in setting.fields name.text) (writing_fault setting.kind name.at) (Some (UnknownName name.at)) (writing_at setting.kind name.at) refl

known_at : (name : Name) (target : Option TypeTree) → IsAt name.at (type_known name target)
known_at name None = refl
known_at name (Some t) = tt

arity_at : (call : CallTree) (found : Option MethodTree) → IsAt call.method.at (arity_fault call found)
arity_at call None = refl
arity_at call (Some m) = at_test call.method.at (nat_eq (length call.args) (length m.params)) None (Some (Arity call.method.at)) tt refl

option_at : (option : TxnOption) (at : ℕ) → IsAt at (option_fault option at)
option_at Create at = tt
option_at Join at = tt
option_at CreateOrJoin at = tt
option_at Suppress at = refl
option_at Supported at = refl
option_at NotAllowed at = refl

transaction_at : (kind : MethodKind) (option : TxnOption) (at : ℕ) → IsAt at (transaction_fault kind option at)
transaction_at Plain option at = tt
transaction_at Read option at = option_at option at
transaction_at Update option at = option_at option at

declared_at : (limit : ℕ) (before : Scope) (name : Name) → IsAt name.at (declared_fault limit before name)
declared_at limit before name = at_both name.at (taken_fault before name) (room_fault limit before name) (taken_at before name) (room_at limit before name)

parameter_at : (fields before : Scope) (name : Name) → IsAt name.at (parameter_fault fields before name)
parameter_at fields before name = at_both name.at (taken_fault fields name) (declared_fault 8 before name) (taken_at fields name) (declared_at 8 before name)

-- each name's fault is at its place
abbrev pub AreAt : List Mention → Type 0
AreAt [] = Unit {0}
AreAt (m ∷ ms) = IsAt m.name.at m.fault × AreAt ms

are_both : (xs ys : List Mention) → AreAt xs → AreAt ys → AreAt (xs ++ ys)
are_both [] ys h k = k
are_both (x ∷ xs) ys h k = (h.0, are_both xs ys h.1 k)

-- names that stand for a piece of text: their first fault is the piece's
abbrev pub Tells : List Mention → FirstFault → Type 0
Tells names found = (first_fault names ≡ found) × AreAt names

tells_nothing : Tells [] None
unfolding first_fault
tells_nothing = (refl, tt)

tells_one : (name : Name) (fault : FirstFault) → IsAt name.at fault → Tells (at_name name fault) fault
unfolding first_fault
tells_one name fault h = (alone fault, (h, tt))

first_append : (xs ys : List Mention) → first_fault (xs ++ ys) ≡ (first_fault xs <|> first_fault ys)
unfolding first_fault
first_append [] ys = refl
first_append (x ∷ xs) ys = ap (λ (y : FirstFault). x.fault <|> y) (first_append xs ys) ∙ associates x.fault (first_fault xs) (first_fault ys)

tells_both : (xs ys : List Mention) (a b : FirstFault) → Tells xs a → Tells ys b → Tells (xs ++ ys) (a <|> b)
tells_both xs ys a b h k = (first_append xs ys ∙ ap (λ (x : FirstFault). x <|> first_fault ys) h.0 ∙ ap (λ (y : FirstFault). a <|> y) k.0, are_both xs ys h.1 k.1)

expression_tells : (setting : Setting) (scope : Scope) (e : ExprTree) → Tells (expression_names setting scope e) (expression_fault setting scope e)
unfolding expression_names expression_fault
expression_tells setting scope (Constant value) = tells_nothing
expression_tells setting scope (Variable name) = tells_one name (variable_fault setting scope name) (variable_at setting scope name)
expression_tells setting scope TheKey = tells_nothing
expression_tells setting scope (Prefixed op of) = expression_tells setting scope of
expression_tells setting scope (Joined op left right) = tells_both (expression_names setting scope left) (expression_names setting scope right) _ _ (expression_tells setting scope left) (expression_tells setting scope right)

arguments_tell : (setting : Setting) (scope : Scope) (args : List ExprTree) → Tells (argument_names setting scope args) (arguments_fault setting scope args)
unfolding argument_names arguments_fault
arguments_tell setting scope [] = tells_nothing
arguments_tell setting scope (x ∷ xs) = tells_both (expression_names setting scope x) (argument_names setting scope xs) _ _ (expression_tells setting scope x) (arguments_tell setting scope xs)

-- the parts of a call, whether its type is there or not
call_parts : (setting : Setting) (scope : Scope) (call : CallTree) (target : Option TypeTree) → Tells (target_names setting scope call target) (type_known call.target target <|> expression_fault setting scope call.place <|> arity_fault call (method_named (methods_of target) call.method.text) <|> arguments_fault setting scope call.args)
call_parts setting scope call target =
    let known = at_name call.target (type_known call.target target) in
    let place = expression_names setting scope call.place in
    let arity = at_name call.method (arity_fault call (method_named (methods_of target) call.method.text)) in
    tells_both (known ++ place ++ arity) (argument_names setting scope call.args) _ _
    (tells_both (known ++ place) arity _ _
    (tells_both known place _ _ (tells_one call.target (type_known call.target target) (known_at call.target target)) (expression_tells setting scope call.place))
    (tells_one call.method (arity_fault call (method_named (methods_of target) call.method.text)) (arity_at call (method_named (methods_of target) call.method.text))))
    (arguments_tell setting scope call.args)

target_tells : (setting : Setting) (scope : Scope) (call : CallTree) (target : Option TypeTree) → Tells (target_names setting scope call target) (target_fault setting scope call target)
target_tells setting scope call None = call_parts setting scope call None
target_tells setting scope call (Some t) = call_parts setting scope call (Some t)

call_tells : (setting : Setting) (scope : Scope) (call : CallTree) → Tells (call_names setting scope call) (call_fault setting scope call)
unfolding call_names call_fault
call_tells setting scope call = target_tells setting scope call (type_named setting.types call.target.text)

source_tells : (setting : Setting) (scope : Scope) (s : SourceTree) → Tells (source_names setting scope s) (source_fault setting scope s)
unfolding source_names source_fault
source_tells setting scope (Computed value) = expression_tells setting scope value
source_tells setting scope (Called call) = call_tells setting scope call

mutual
  unfolding statement_names statement_fault

  statement_tells : (setting : Setting) (scope : Scope) (s : StmtTree) → Tells (statement_names setting scope s) (statement_fault setting scope s)
  statement_tells setting scope (Bind name value) = tells_both (at_name name (local_fault setting scope name)) (source_names setting scope value) _ _ (tells_one name (local_fault setting scope name) (local_at setting scope name)) (source_tells setting scope value)
  statement_tells setting scope (Rebind name value) = tells_both (at_name name (assigned_fault scope name)) (source_names setting scope value) _ _ (tells_one name (assigned_fault scope name) (assigned_at scope name)) (source_tells setting scope value)
  statement_tells setting scope (SetField name value) = tells_both (at_name name (set_fault setting name)) (expression_names setting scope value) _ _ (tells_one name (set_fault setting name) (set_at setting name)) (expression_tells setting scope value)
  statement_tells setting scope (Perform call) = call_tells setting scope call
  statement_tells setting scope (Choose test block other) =
      tells_both (expression_names setting scope test ++ block_names setting scope block) (else_names setting scope other) _ _
      (tells_both (expression_names setting scope test) (block_names setting scope block) _ _ (expression_tells setting scope test) (block_tells setting scope block))
      (else_tells setting scope other)
  statement_tells setting scope (Repeat test block) = tells_both (expression_names setting scope test) (block_names setting scope block) _ _ (expression_tells setting scope test) (block_tells setting scope block)
  statement_tells setting scope (Give value) = expression_tells setting scope value
  statement_tells setting scope (FailWith text) = tells_nothing
  statement_tells setting scope (Try at name call block other) =
      let under = with_name scope name in
      let declared = at_name name (local_fault setting scope name) in
      tells_both (declared ++ call_names setting scope call ++ block_names setting under block) (block_names setting under other) _ _
      (tells_both (declared ++ call_names setting scope call) (block_names setting under block) _ _
      (tells_both declared (call_names setting scope call) _ _ (tells_one name (local_fault setting scope name) (local_at setting scope name)) (call_tells setting scope call))
      (block_tells setting under block))
      (block_tells setting under other)

  block_tells : (setting : Setting) (scope : Scope) (b : BlockTree) → Tells (block_names setting scope b) (block_fault setting scope b)
  block_tells setting scope NoMore = tells_nothing
  block_tells setting scope (Then first rest) = tells_both (statement_names setting scope first) (block_names setting (scope_after scope first) rest) _ _ (statement_tells setting scope first) (block_tells setting (scope_after scope first) rest)

  else_tells : (setting : Setting) (scope : Scope) (o : ElseTree) → Tells (else_names setting scope o) (else_fault setting scope o)
  else_tells setting scope NoElse = tells_nothing
  else_tells setting scope (Else block) = block_tells setting scope block

each_tells : {A : Type 0} (name_of : A → Name) (names : Scope → A → List Mention) (fault : Scope → A → FirstFault) (one : (before : Scope) (x : A) → Tells (names before x) (fault before x)) (before : Scope) (xs : List A) → Tells (each_names name_of names before xs) (each_fault name_of fault before xs)
unfolding each_names each_fault
each_tells name_of names fault one before [] = tells_nothing
each_tells name_of names fault one before (x ∷ xs) =
    let after = before ++ ((name_of x).text ∷ []) in
    tells_both (names before x) (each_names name_of names after xs) _ _ (one before x) (each_tells name_of names fault one after xs)

method_tells : (types : ProgramTree) (fields before : Scope) (m : MethodTree) → Tells (method_mentions types fields before m) (method_fault types fields before m)
method_tells types fields before m =
    let declared = declared_fault 64 before m.name <|> transaction_fault m.kind m.option m.name.at in
    let params = each_names (λ n. n) (parameter_mention fields) [] m.params in
    let body = block_names (record { types = types; fields = fields; kind = m.kind }) (map (λ n. n.text) m.params) m.body in
    tells_both (at_name m.name declared ++ params) body _ _
    (tells_both (at_name m.name declared) params _ _ (tells_one m.name declared (at_both m.name.at (declared_fault 64 before m.name) (transaction_fault m.kind m.option m.name.at) (declared_at 64 before m.name) (transaction_at m.kind m.option m.name.at))) (each_tells (λ n. n) (parameter_mention fields) (parameter_fault fields) (λ b n. tells_one n (parameter_fault fields b n) (parameter_at fields b n)) [] m.params))
    (block_tells (record { types = types; fields = fields; kind = m.kind }) (map (λ n. n.text) m.params) m.body)

type_tells : (types : ProgramTree) (before : Scope) (t : TypeTree) → Tells (type_mentions types before t) (type_fault types before t)
type_tells types before t =
    let fields = each_names (λ f. f.name) field_mention [] t.fields in
    let methods = each_names (λ m. m.name) (method_mentions types (field_names t.fields)) [] t.methods in
    tells_both (at_name t.name (declared_fault 64 before t.name) ++ fields) methods _ _
    (tells_both (at_name t.name (declared_fault 64 before t.name)) fields _ _ (tells_one t.name (declared_fault 64 before t.name) (declared_at 64 before t.name)) (each_tells (λ f. f.name) field_mention field_fault (λ b f. tells_one f.name (field_fault b f) (declared_at 64 b f.name)) [] t.fields))
    (each_tells (λ m. m.name) (method_mentions types (field_names t.fields)) (method_fault types (field_names t.fields)) (method_tells types (field_names t.fields)) [] t.methods)

pub program_tells : (types : ProgramTree) → Tells (program_names types) (program_fault types)
unfolding program_names program_fault
program_tells types = each_tells (λ t. t.name) (type_mentions types) (type_fault types) (type_tells types) [] types

-- the first fault of names, with the names before it
pub record IsFirstOf (ms : List Mention) (fault : CheckFault) : Type 0 where
  pub before : List Mention
  pub here : Mention
  pub after : List Mention
  pub are : ms ≡ before ++ (here ∷ after)
  pub right_before : All (λ m. m.fault ≡ None) before
  pub is_here : here.fault ≡ Some fault
  pub place : check_fault_place fault ≡ here.name.at

first_here : (m : Mention) (ms : List Mention) (fault : CheckFault) (found : FirstFault) → m.fault ≡ found → IsAt m.name.at m.fault → ((first_fault ms ≡ Some fault) → IsFirstOf ms fault) → (found <|> first_fault ms) ≡ Some fault → IsFirstOf (m ∷ ms) fault
first_here m ms fault None is at later e =
    let r = later e in
    record { before = m ∷ r.before; here = r.here; after = r.after; are = ap (λ (l : List Mention). m ∷ l) r.are; right_before = All-cons (λ x. x.fault ≡ None) m r.before is r.right_before; is_here = r.is_here; place = r.place }
first_here m ms fault (Some f) is at later e =
    record { before = []; here = m; after = ms; are = refl; right_before = All-nil (λ x. x.fault ≡ None); is_here = is ∙ e; place = subst (IsAt m.name.at) (is ∙ e) at }

first_of : (ms : List Mention) (fault : CheckFault) → AreAt ms → first_fault ms ≡ Some fault → IsFirstOf ms fault
unfolding first_fault
first_of [] fault at e = absurd cc
first_of (m ∷ ms) fault at e = first_here m ms fault m.fault refl at.0 (first_of ms fault at.1) e

-- the fault that a check names is the first
pub names_first : (fault : CheckFault) (types : ProgramTree) → Fails fault (program_fault types) → fault ≢ Memory → IsFirstFault types fault
names_first fault types f n =
    let t = program_tells types in
    let r = first_of (program_names types) fault t.1 (t.0 ∙ fails_some fault (program_fault types) f n) in
    record { before = r.before; here = r.here; after = r.after; are = r.are; right_before = r.right_before; is_here = r.is_here; place = r.place }
