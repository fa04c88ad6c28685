-- The text of a summary.
use Rattle.std.proofs.Common.{◌≡◌, ℕ, ℤ, pos, negsuc, List, [], ◌∷◌, ◌++◌, codes, decimal, refl, sym, ap, ◌∙◌, append_assoc}
use Rattle.std.specs.Fmt.{signed_decimal}
use Rattle.base_types.specs.declared.entries.Entry.{Entry}
use Rattle.json.specs.Print.{escape_byte}
use Rattle.serde_json.specs.Find.{of_integer}
use Rattle.serde_json.specs.Written.{number_text}
use Rattle.promise_spec.specs.Loads.{line_valued, is_faulted, line_aborted, how_many_lines}
use Rattle.bank_load.specs.Summaries.{said_line, summary_line}

number_said : (z : ℤ) → number_text (of_integer z) ≡ signed_decimal z
number_said (pos n) = refl
number_said (negsuc n) = refl

-- what is formatted is the line
pub said : (entries : List Entry) (requests : ℕ) (total : ℤ) →
    said_line (how_many_lines line_aborted entries) (how_many_lines line_valued entries) (how_many_lines is_faulted entries) requests total ≡ summary_line entries requests total
unfolding escape_byte
said entries requests total =
    let a : List ℕ = decimal (how_many_lines line_aborted entries) in
    let c : List ℕ = decimal (how_many_lines line_valued entries) in
    let f : List ℕ = decimal (how_many_lines is_faulted entries) in
    let q : List ℕ = decimal requests in
    let t : List ℕ = number_text (of_integer total) in
    let nl : List ℕ = 10 ∷ [] in
    let x4 : List ℕ = codes ",\"total\":" ++ (t ++ 125 ∷ []) in
    let x3 : List ℕ = codes ",\"requests\":" ++ (q ++ x4) in
    let x2 : List ℕ = codes ",\"faulted\":" ++ (f ++ x3) in
    let x1 : List ℕ = codes ",\"committed\":" ++ (c ++ x2) in
    let whole : codes "{\"aborted\":" ++ ((a ++ x1) ++ nl) ≡ codes "{\"aborted\":" ++ (a ++ (codes ",\"committed\":" ++ (c ++ (codes ",\"faulted\":" ++ (f ++ (codes ",\"requests\":" ++ (q ++ (codes ",\"total\":" ++ (t ++ codes "}\n"))))))))) =
    ap (λ (l : List ℕ). codes "{\"aborted\":" ++ l) (append_assoc a x1 nl
    ∙ ap (λ (l : List ℕ). a ++ (codes ",\"committed\":" ++ l)) (append_assoc c x2 nl
    ∙ ap (λ (l : List ℕ). c ++ (codes ",\"faulted\":" ++ l)) (append_assoc f x3 nl
    ∙ ap (λ (l : List ℕ). f ++ (codes ",\"requests\":" ++ l)) (append_assoc q x4 nl
    ∙ ap (λ (l : List ℕ). q ++ (codes ",\"total\":" ++ l)) (append_assoc t (125 ∷ []) nl))))) in
    ap (λ (l : List ℕ). codes "{\"aborted\":" ++ (a ++ (codes ",\"committed\":" ++ (c ++ (codes ",\"faulted\":" ++ (f ++ (codes ",\"requests\":" ++ (q ++ (codes ",\"total\":" ++ (l ++ codes "}\n")))))))))) (sym (number_said total))
    ∙ sym whole
