-- Each name of a program is mentioned, and the first fault has the least place.
use Rattle.std.proofs.Common.{◌≡◌, ◌≢◌, ℕ, ◌<◌, ◌≤◌, List, [], ◌∷◌, ◌++◌, map, Option, None, refl, sym, ap, subst, ◌∙◌, arith}
use Rattle.std.specs.List.{All}
use Rattle.std.proofs.lemmas.List.Elements.{All-nil, All-cons, All-head, All-tail}
use Rattle.script_tree.specs.declared.expressions.Name.{Name}
use Rattle.script_tree.specs.Exprs.{ExprTree, Constant, Variable, TheKey, Prefixed, Joined, CallTree}
use Rattle.script_tree.specs.Stmts.{SourceTree, Computed, Called, StmtTree, BlockTree, ElseTree, Bind, Rebind, SetField, Perform, Choose, Repeat, Give, FailWith, Try, NoMore, Then, NoElse, Else}
use Rattle.script_tree.specs.Programs.{MethodTree, TypeTree, ProgramTree}
use Rattle.script_tree.specs.Names.{names_in_expression, names_in_each, names_in_call, names_in_source, names_in_statement, names_in_block, names_in_else, names_in_field, names_in_parameter, names_in_method, names_in_type, names_in_program, AreInOrder}
use Rattle.script_scopes.specs.declared.faults.CheckFault.{CheckFault}
use Rattle.script_scopes.specs.declared.faults.CheckFault.TheVariants.{Memory}
use Rattle.script_scopes.specs.FirstFaults.{◌<|>◌, Fails}
use Rattle.script_scopes.specs.Names.{Scope, Setting, local_fault}
use Rattle.script_scopes.specs.Expressions.{type_named, method_named, arity_fault}
use Rattle.script_scopes.specs.Statements.{with_name, scope_after}
use Rattle.script_check.specs.Programs.{transaction_fault, declared_fault, field_names, program_fault}
use Rattle.script_check.specs.Mentions.{Mention, at_name, expression_names, argument_names, type_known, methods_of, target_names, call_names, source_names, statement_names, block_names, else_names, each_names, field_mention, parameter_mention, method_mentions, type_mentions, program_names, IsFirstFault, IsLeastPlace}
use Rattle.script_check.proofs.Firsts.{names_first}

-- ---- each name is mentioned

-- the names that are mentioned
abbrev named : List Mention → List Name
named mentions = map (λ m. m.name) mentions

-- mentions one after another
named_append : (xs ys : List Mention) → named (xs ++ ys) ≡ named xs ++ named ys
named_append [] ys = refl
named_append (x ∷ xs) ys = ap (λ (l : List Name). x.name ∷ l) (named_append xs ys)

both : (xs ys : List Mention) (a b : List Name) → named xs ≡ a → named ys ≡ b → named (xs ++ ys) ≡ a ++ b
both xs ys a b h k = named_append xs ys ∙ ap (λ (l : List Name). l ++ named ys) h ∙ ap (λ (l : List Name). a ++ l) k

expression_named : (setting : Setting) (scope : Scope) (e : ExprTree) → named (expression_names setting scope e) ≡ names_in_expression e
unfolding expression_names names_in_expression
expression_named setting scope (Constant value) = refl
expression_named setting scope (Variable name) = refl
expression_named setting scope TheKey = refl
expression_named setting scope (Prefixed op of) = expression_named setting scope of
expression_named setting scope (Joined op left right) = both (expression_names setting scope left) (expression_names setting scope right) _ _ (expression_named setting scope left) (expression_named setting scope right)

arguments_named : (setting : Setting) (scope : Scope) (args : List ExprTree) → named (argument_names setting scope args) ≡ names_in_each names_in_expression args
unfolding argument_names names_in_each
arguments_named setting scope [] = refl
arguments_named setting scope (x ∷ xs) = both (expression_names setting scope x) (argument_names setting scope xs) _ _ (expression_named setting scope x) (arguments_named setting scope xs)

target_named : (setting : Setting) (scope : Scope) (call : CallTree) (target : Option TypeTree) → named (target_names setting scope call target) ≡ names_in_call call
unfolding names_in_call
target_named setting scope call target =
    let known = at_name call.target (type_known call.target target) in
    let place = expression_names setting scope call.place in
    let arity = at_name call.method (arity_fault call (method_named (methods_of target) call.method.text)) in
    both (known ++ place ++ arity) (argument_names setting scope call.args) _ _
    (both (known ++ place) arity (call.target ∷ names_in_expression call.place) (call.method ∷ [])
    (both known place (call.target ∷ []) _ refl (expression_named setting scope call.place))
    refl)
    (arguments_named setting scope call.args)

call_named : (setting : Setting) (scope : Scope) (call : CallTree) → named (call_names setting scope call) ≡ names_in_call call
unfolding call_names
call_named setting scope call = target_named setting scope call (type_named setting.types call.target.text)

source_named : (setting : Setting) (scope : Scope) (s : SourceTree) → named (source_names setting scope s) ≡ names_in_source s
unfolding source_names names_in_source
source_named setting scope (Computed value) = expression_named setting scope value
source_named setting scope (Called call) = call_named setting scope call

mutual
  unfolding statement_names names_in_statement

  statement_named : (setting : Setting) (scope : Scope) (s : StmtTree) → named (statement_names setting scope s) ≡ names_in_statement s
  statement_named setting scope (Bind name value) = ap (λ (l : List Name). name ∷ l) (source_named setting scope value)
  statement_named setting scope (Rebind name value) = ap (λ (l : List Name). name ∷ l) (source_named setting scope value)
  statement_named setting scope (SetField name value) = ap (λ (l : List Name). name ∷ l) (expression_named setting scope value)
  statement_named setting scope (Perform call) = call_named setting scope call
  statement_named setting scope (Choose test block other) =
      both (expression_names setting scope test ++ block_names setting scope block) (else_names setting scope other) _ _
      (both (expression_names setting scope test) (block_names setting scope block) _ _ (expression_named setting scope test) (block_named setting scope block))
      (else_named setting scope other)
  statement_named setting scope (Repeat test block) = both (expression_names setting scope test) (block_names setting scope block) _ _ (expression_named setting scope test) (block_named setting scope block)
  statement_named setting scope (Give value) = expression_named setting scope value
  statement_named setting scope (FailWith text) = refl
  statement_named setting scope (Try at name call block other) =
      let under = with_name scope name in
      let declared = at_name name (local_fault setting scope name) in
      both (declared ++ call_names setting scope call ++ block_names setting under block) (block_names setting under other) _ _
      (both (declared ++ call_names setting scope call) (block_names setting under block) (name ∷ names_in_call call) _
      (both declared (call_names setting scope call) (name ∷ []) _ refl (call_named setting scope call))
      (block_named setting under block))
      (block_named setting under other)

  block_named : (setting : Setting) (scope : Scope) (b : BlockTree) → named (block_names setting scope b) ≡ names_in_block b
  block_named setting scope NoMore = refl
  block_named setting scope (Then first rest) = both (statement_names setting scope first) (block_names setting (scope_after scope first) rest) _ _ (statement_named setting scope first) (block_named setting (scope_after scope first) rest)

  else_named : (setting : Setting) (scope : Scope) (o : ElseTree) → named (else_names setting scope o) ≡ names_in_else o
  else_named setting scope NoElse = refl
  else_named setting scope (Else block) = block_named setting scope block

each_named : {A : Type 0} (name_of : A → Name) (names : Scope → A → List Mention) (all : A → List Name) (one : (before : Scope) (x : A) → named (names before x) ≡ all x) (before : Scope) (xs : List A) → named (each_names name_of names before xs) ≡ names_in_each all xs
unfolding each_names names_in_each
each_named name_of names all one before [] = refl
each_named name_of names all one before (x ∷ xs) =
    let after = before ++ ((name_of x).text ∷ []) in
    both (names before x) (each_names name_of names after xs) _ _ (one before x) (each_named name_of names all one after xs)

named_method : (types : ProgramTree) (fields before : Scope) (m : MethodTree) → named (method_mentions types fields before m) ≡ names_in_method m
named_method types fields before m =
    let declared = at_name m.name (declared_fault 64 before m.name <|> transaction_fault m.kind m.option m.name.at) in
    let params = each_names (λ n. n) (parameter_mention fields) [] m.params in
    let body = block_names (record { types = types; fields = fields; kind = m.kind }) (map (λ n. n.text) m.params) m.body in
    both (declared ++ params) body (m.name ∷ names_in_each names_in_parameter m.params) _
    (both declared params (m.name ∷ []) _ refl (each_named (λ n. n) (parameter_mention fields) names_in_parameter (λ b n. refl) [] m.params))
    (block_named (record { types = types; fields = fields; kind = m.kind }) (map (λ n. n.text) m.params) m.body)

named_type : (types : ProgramTree) (before : Scope) (t : TypeTree) → named (type_mentions types before t) ≡ names_in_type t
named_type types before t =
    let declared = at_name t.name (declared_fault 64 before t.name) in
    let fields = each_names (λ f. f.name) field_mention [] t.fields in
    let methods = each_names (λ m. m.name) (method_mentions types (field_names t.fields)) [] t.methods in
    both (declared ++ fields) methods (t.name ∷ names_in_each names_in_field t.fields) _
    (both declared fields (t.name ∷ []) _ refl (each_named (λ f. f.name) field_mention names_in_field (λ b f. refl) [] t.fields))
    (each_named (λ m. m.name) (method_mentions types (field_names t.fields)) names_in_method (named_method types (field_names t.fields)) [] t.methods)

pub program_named : (types : ProgramTree) → map (λ m. m.name) (program_names types) ≡ names_in_program types
unfolding program_names names_in_program
program_named types = each_named (λ t. t.name) (type_mentions types) names_in_type (named_type types) [] types

-- ---- the first fault has the least place

all_behind : (at : ℕ) (ms : List Mention) → All (λ (later : Name). at < later.at) (named ms) → All (λ (m : Mention). m.fault ≢ None → at ≤ m.name.at) ms
all_behind at [] h = All-nil (λ (m : Mention). m.fault ≢ None → at ≤ m.name.at)
all_behind at (m ∷ ms) h =
    let first : at < m.name.at = All-head (λ (later : Name). at < later.at) m.name (named ms) h in
    All-cons (λ (m : Mention). m.fault ≢ None → at ≤ m.name.at) m ms (λ ne. omega arith) (all_behind at ms (All-tail (λ (later : Name). at < later.at) m.name (named ms) h))

least_of : (before : List Mention) (here : Mention) (after : List Mention) → All (λ m. m.fault ≡ None) before → AreInOrder (named (before ++ (here ∷ after))) → All (λ (m : Mention). m.fault ≢ None → here.name.at ≤ m.name.at) (before ++ (here ∷ after))
least_of [] here after right order = All-cons (λ (m : Mention). m.fault ≢ None → here.name.at ≤ m.name.at) here after (λ ne. omega arith) (all_behind here.name.at after order.0)
least_of (b ∷ bs) here after right order =
    All-cons (λ (m : Mention). m.fault ≢ None → here.name.at ≤ m.name.at) b (bs ++ (here ∷ after)) (λ ne. absurd (ne (All-head (λ m. m.fault ≡ None) b bs right))) (least_of bs here after (All-tail (λ m. m.fault ≡ None) b bs right) order.1)

pub first_is_least : (types : ProgramTree) (fault : CheckFault) → IsFirstFault types fault → AreInOrder (names_in_program types) → IsLeastPlace types fault
first_is_least types fault f order =
    let mentioned : AreInOrder (named (f.before ++ (f.here ∷ f.after))) = subst (λ (l : List Mention). AreInOrder (named l)) f.are (subst AreInOrder (sym (program_named types)) order) in
    let all = least_of f.before f.here f.after f.right_before mentioned in
    subst (λ (at : ℕ). All (λ (m : Mention). m.fault ≢ None → at ≤ m.name.at) (program_names types)) (sym f.place) (subst (λ (l : List Mention). All (λ (m : Mention). m.fault ≢ None → f.here.name.at ≤ m.name.at) l) (sym f.are) all)

pub names_least : (fault : CheckFault) (types : ProgramTree) → Fails fault (program_fault types) → fault ≢ Memory → AreInOrder (names_in_program types) → IsLeastPlace types fault
names_least fault types f n order = first_is_least types fault (names_first fault types f n) order
