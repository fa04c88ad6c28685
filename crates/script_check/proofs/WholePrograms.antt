-- Nothing is at fault exactly where the tree is a program: declarations, methods, types.
use Rattle.std.proofs.Common.{◌≡◌, ◌≢◌, ◌<◌, ◌≤◌, ◌+◌, ℕ, Bool, true, false, List, [], ◌∷◌, ◌++◌, map, length, Some, None, refl, sym, ap, subst, ◌∙◌, append_assoc, inl, inr, arith}
use Rattle.std.specs.Prelude.{◌↔◌, if◌then◌else◌}
use Rattle.std.specs.List.{All, Contains}
use Rattle.std.proofs.Math.ListN.{get_or-append}
use Rattle.std.proofs.Math.Seq.{get_or-append_seam}
use Rattle.std.proofs.lemmas.Bool.Decides.{leb_tells}
use Rattle.std.proofs.lemmas.List.{append-nil, length-append, get_or_default}
use Rattle.std.proofs.lemmas.List.Elements.{All-nil, All-cons, All-head, All-tail}
use Rattle.std.proofs.lemmas.List.Quantifiers.{all_pairs_push}
use Rattle.script_tree.specs.declared.expressions.Name.{Name}
use Rattle.script_tree.specs.declared.options.MethodKind.{MethodKind}
use Rattle.script_tree.specs.declared.options.MethodKind.TheVariants.{Read, Update, Plain}
use Rattle.script_tree.specs.declared.options.TxnOption.{TxnOption}
use Rattle.script_tree.specs.declared.options.TxnOption.TheVariants.{Create, Join, CreateOrJoin, Suppress, Supported, NotAllowed}
use Rattle.script_tree.specs.declared.options.Entered.TheVariants as way
use Rattle.script_tree.specs.declared.programs.FieldDecl.{FieldDecl}
use Rattle.script_tree.specs.Options.{entered}
use Rattle.script_tree.specs.Programs.{MethodTree, TypeTree, ProgramTree}
use Rattle.script_scopes.specs.declared.faults.CheckFault.{CheckFault}
use Rattle.script_scopes.specs.declared.faults.CheckFault.TheVariants.{TooMany, Memory}
use Rattle.script_scopes.specs.FirstFaults.{FirstFault, ◌<|>◌, Fails}
use Rattle.script_scopes.specs.Names.{Scope, taken_fault, room_fault}
use Rattle.script_check.specs.Programs.{option_fault, transaction_fault, each_fault, declared_fault, field_fault, parameter_fault, parameters_fault, body_fault, method_fault, field_names, type_fault, program_fault}
use Rattle.script_check.specs.AcceptedPrograms.{IsTransacted, AreNamesApart, IsAcceptedMethod, IsAcceptedType, IsAcceptedProgram}
use Rattle.script_scopes.proofs.Founds.{goes_on, fails_some}
use Rattle.script_check.proofs.Declarations.{texts}
use Rattle.script_scopes.proofs.AcceptedBodies.{both, pair_iff, taken_iff, block_iff}

-- one more is within the limit
pub room_iff : (limit : ℕ) (before : Scope) (name : Name) → (room_fault limit before name ≡ None) ↔ (length before < limit)
room_iff limit before name = elim (leb_tells limit (length before)) [
  | inl p ↦ ((λ e. let h : Some (TooMany name.at) ≡ None = ap (λ (b : Bool). if b then Some (TooMany name.at) else None) (sym p.0) ∙ e in absurd cc), (λ lt. absurd (omega (arith, p.1, lt))))
  | inr p ↦ ((λ e. p.1), (λ lt. ap (λ (b : Bool). if b then Some (TooMany name.at) else None) p.0))
]

-- a name is new among those before it, and one more is within the limit
abbrev pub IsNext : ℕ → Scope → Name → Type 0
IsNext limit before name = (¬ Contains before name.text) × (length before < limit)

pub declared_iff : (limit : ℕ) (before : Scope) (name : Name) → (declared_fault limit before name ≡ None) ↔ IsNext limit before name
declared_iff limit before name = pair_iff (taken_fault before name) (room_fault limit before name) (taken_iff before name) (room_iff limit before name)

-- a name behind names that are apart, and is none of them
pushed_apart : (before : Scope) (name : List ℕ) → AreNamesApart before → ¬ Contains before name → AreNamesApart (before ++ (name ∷ []))
pushed_apart before name apart new = all_pairs_push (λ a b. a ≢ b) before name apart (λ k d lt h. new (k, lt, get_or_default before k name d lt ∙ h))

-- a name in the midst of names that are apart is none of those before it
new_within : (before : Scope) (name : List ℕ) (rest : Scope) → AreNamesApart (before ++ (name ∷ rest)) → ¬ Contains before name
new_within before name rest apart c =
    let within : length before < length (before ++ (name ∷ rest)) = omega (arith, length-append before (name ∷ rest)) in
    apart c.0 (length before) name c.1 within (get_or-append before (name ∷ rest) name c.0 c.1 ∙ c.2 ∙ sym (get_or-append_seam before name rest name))

-- what is the case of declarations, each of which is right among those before it
pub record AreDeclared {A : Type 0} (name_of : A → Name) (limit : ℕ) (Own : A → Type 0) (before : Scope) (xs : List A) : Type 0 where
  pub apart : AreNamesApart (before ++ texts name_of xs)
  pub few : length before + length xs ≤ limit
  pub own : All Own xs

pub each_right : {A : Type 0} (name_of : A → Name) (limit : ℕ) (fault : Scope → A → FirstFault) (Own : A → Type 0) (one : (before : Scope) (x : A) → (fault before x ≡ None) ↔ (IsNext limit before (name_of x) × Own x)) (before : Scope) (xs : List A) → AreNamesApart before → length before ≤ limit → each_fault name_of fault before xs ≡ None → AreDeclared name_of limit Own before xs
unfolding each_fault
each_right name_of limit fault Own one before [] apart few e = record { apart = subst AreNamesApart (sym (append-nil before)) apart; few = omega arith; own = All-nil Own }
each_right name_of limit fault Own one before (x ∷ xs) apart few e =
    let s = both (fault before x) (each_fault name_of fault (before ++ ((name_of x).text ∷ [])) xs) e in
    let f = (one before x).0 s.0 in
    let longer : length (before ++ ((name_of x).text ∷ [])) ≡ length before + 1 = length-append before ((name_of x).text ∷ []) in
    let lt : length before < limit = f.0.1 in
    let r = each_right name_of limit fault Own one (before ++ ((name_of x).text ∷ [])) xs (pushed_apart before (name_of x).text apart f.0.0) (omega (arith, longer, lt)) s.1 in
    record { apart = subst AreNamesApart (append_assoc before ((name_of x).text ∷ []) (texts name_of xs)) r.apart; few = omega (arith, longer, r.few); own = All-cons Own x xs f.1 r.own }

pub each_back : {A : Type 0} (name_of : A → Name) (limit : ℕ) (fault : Scope → A → FirstFault) (Own : A → Type 0) (one : (before : Scope) (x : A) → (fault before x ≡ None) ↔ (IsNext limit before (name_of x) × Own x)) (before : Scope) (xs : List A) → AreDeclared name_of limit Own before xs → each_fault name_of fault before xs ≡ None
unfolding each_fault
each_back name_of limit fault Own one before [] d = refl
each_back name_of limit fault Own one before (x ∷ xs) d =
    let few : length before + (length xs + 1) ≤ limit = omega (arith, d.few) in
    let longer : length (before ++ ((name_of x).text ∷ [])) ≡ length before + 1 = length-append before ((name_of x).text ∷ []) in
    let here = (one before x).1 ((new_within before (name_of x).text (texts name_of xs) d.apart, omega (arith, few)), All-head Own x xs d.own) in
    goes_on (fault before x) (each_fault name_of fault (before ++ ((name_of x).text ∷ [])) xs) here
    ∙ each_back name_of limit fault Own one (before ++ ((name_of x).text ∷ [])) xs (record { apart = subst AreNamesApart (sym (append_assoc before ((name_of x).text ∷ []) (texts name_of xs))) d.apart; few = omega (arith, longer, few); own = All-tail Own x xs d.own })

-- no names are apart
none_apart : AreNamesApart []
none_apart i j d lt le = absurd (omega (arith, le))

-- declarations that are all right, from the first on
pub record AllDeclared {A : Type 0} (name_of : A → Name) (limit : ℕ) (Own : A → Type 0) (xs : List A) : Type 0 where
  pub apart : AreNamesApart (texts name_of xs)
  pub few : length xs ≤ limit
  pub own : All Own xs

pub from_first : {A : Type 0} (name_of : A → Name) (limit : ℕ) (fault : Scope → A → FirstFault) (Own : A → Type 0) (one : (before : Scope) (x : A) → (fault before x ≡ None) ↔ (IsNext limit before (name_of x) × Own x)) (xs : List A) → (each_fault name_of fault [] xs ≡ None) ↔ AllDeclared name_of limit Own xs
from_first name_of limit fault Own one xs = (
  (λ e. let r = each_right name_of limit fault Own one [] xs none_apart (omega arith) e in record { apart = r.apart; few = omega (arith, r.few); own = r.own }),
  (λ h. let few : length xs ≤ limit = h.few in each_back name_of limit fault Own one [] xs (record { apart = h.apart; few = omega (arith, few); own = h.own })),
)

-- options that never run a method outside a transaction
create_is : (within passed : Bool) → entered Create within ≢ way.Plain passed
create_is false passed e = absurd cc
create_is true passed e = absurd cc

join_is : (within passed : Bool) → entered Join within ≢ way.Plain passed
join_is false passed e = absurd cc
join_is true passed e = absurd cc

create_or_join_is : (within passed : Bool) → entered CreateOrJoin within ≢ way.Plain passed
create_or_join_is false passed e = absurd cc
create_or_join_is true passed e = absurd cc

option_iff : (option : TxnOption) (at : ℕ) → (option_fault option at ≡ None) ↔ ((within passed : Bool) → entered option within ≢ way.Plain passed)
option_iff Create at = ((λ e. create_is), (λ h. refl))
option_iff Join at = ((λ e. join_is), (λ h. refl))
option_iff CreateOrJoin at = ((λ e. create_or_join_is), (λ h. refl))
option_iff Suppress at = ((λ e. absurd cc), (λ h. absurd (h false false refl)))
option_iff Supported at = ((λ e. absurd cc), (λ h. absurd (h false false refl)))
option_iff NotAllowed at = ((λ e. absurd cc), (λ h. absurd (h false false refl)))

-- a method's option
pub transaction_iff : (kind : MethodKind) (option : TxnOption) (at : ℕ) → (transaction_fault kind option at ≡ None) ↔ IsTransacted kind option
transaction_iff Plain option at = ((λ e n. absurd (n refl)), (λ h. refl))
transaction_iff Read option at = let o = option_iff option at in ((λ e n. o.0 e), (λ h. o.1 (h (λ k. absurd cc))))
transaction_iff Update option at = let o = option_iff option at in ((λ e n. o.0 e), (λ h. o.1 (h (λ k. absurd cc))))

-- fields, of which nothing else is asked
field_one : (before : Scope) (f : FieldDecl) → (field_fault before f ≡ None) ↔ (IsNext 64 before f.name × Unit {0})
field_one before f = let d = declared_iff 64 before f.name in ((λ e. (d.0 e, tt)), (λ h. d.1 h.0))

-- parameters, none of which has a field's name
parameter_one : (fields before : Scope) (n : Name) → (parameter_fault fields before n ≡ None) ↔ (IsNext 8 before n × (¬ Contains fields n.text))
parameter_one fields before n =
    let p = pair_iff (taken_fault fields n) (declared_fault 8 before n) (taken_iff fields n) (declared_iff 8 before n) in
    ((λ e. let s = p.0 e in (s.1, s.0)), (λ h. p.1 (h.1, h.0)))

parameters_iff : (fields : Scope) (params : List Name) → (parameters_fault fields params ≡ None) ↔ AllDeclared (λ n. n) 8 (λ n. ¬ Contains fields n.text) params
parameters_iff fields params = from_first (λ n. n) 8 (parameter_fault fields) (λ n. ¬ Contains fields n.text) (parameter_one fields) params

method_one : (types : ProgramTree) (fields before : Scope) (m : MethodTree) → (method_fault types fields before m ≡ None) ↔ (IsNext 64 before m.name × IsAcceptedMethod types fields m)
method_one types fields before m =
    let declared = declared_fault 64 before m.name in
    let transaction = transaction_fault m.kind m.option m.name.at in
    let params = parameters_fault fields m.params in
    let body = body_fault types fields m in
    let p = pair_iff (declared <|> transaction <|> params) body
    (pair_iff (declared <|> transaction) params
    (pair_iff declared transaction (declared_iff 64 before m.name) (transaction_iff m.kind m.option m.name.at))
    (parameters_iff fields m.params))
    (block_iff (record { types = types; fields = fields; kind = m.kind }) (map (λ n. n.text) m.params) m.body) in (
      (λ e. let s = p.0 e in (s.0.0.0, record { transacted = s.0.0.1; few = s.0.1.few; apart = s.0.1.apart; hides_none = s.0.1.own; body = s.1 })),
      (λ h. p.1 (((h.0, h.1.transacted), record { apart = h.1.apart; few = h.1.few; own = h.1.hides_none }), h.1.body)),
    )

type_one : (types : ProgramTree) (before : Scope) (t : TypeTree) → (type_fault types before t ≡ None) ↔ (IsNext 64 before t.name × IsAcceptedType types t)
type_one types before t =
    let declared = declared_fault 64 before t.name in
    let fields = each_fault (λ f. f.name) field_fault [] t.fields in
    let methods = each_fault (λ m. m.name) (method_fault types (field_names t.fields)) [] t.methods in
    let p = pair_iff (declared <|> fields) methods
    (pair_iff declared fields (declared_iff 64 before t.name) (from_first (λ f. f.name) 64 field_fault (λ f. Unit {0}) field_one t.fields))
    (from_first (λ m. m.name) 64 (method_fault types (field_names t.fields)) (IsAcceptedMethod types (field_names t.fields)) (method_one types (field_names t.fields)) t.methods) in (
      (λ e. let s = p.0 e in (s.0.0, record { few_fields = s.0.1.few; fields_apart = s.0.1.apart; few_methods = s.1.few; methods_apart = s.1.apart; methods = s.1.own })),
      (λ h. p.1 ((h.0, record { apart = h.1.fields_apart; few = h.1.few_fields; own = (λ k d lt. tt) }), record { apart = h.1.methods_apart; few = h.1.few_methods; own = h.1.methods })),
    )

pub program_iff : (types : ProgramTree) → (program_fault types ≡ None) ↔ IsAcceptedProgram types
unfolding program_fault
program_iff types =
    let p = from_first (λ t. t.name) 64 (type_fault types) (IsAcceptedType types) (type_one types) types in (
      (λ e. let s = p.0 e in record { few = s.few; apart = s.apart; each = s.own }),
      (λ h. p.1 (record { apart = h.apart; few = h.few; own = h.each })),
    )

-- where a fault is named the tree is no program
pub refuses : (e : CheckFault) (types : ProgramTree) → Fails e (program_fault types) → e ≢ Memory → ¬ IsAcceptedProgram types
refuses e types f n p = let h : Some e ≡ None = sym (fails_some e (program_fault types) f n) ∙ (program_iff types).1 p in absurd cc
