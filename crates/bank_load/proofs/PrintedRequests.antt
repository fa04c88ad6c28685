-- A request that is printed reads back as its data.
use Rattle.std.proofs.Common.{◌≡◌, ℕ, ◌^◌, ◌<◌, ◌≤◌, Bool, true, false, pos, List, [], ◌∷◌, ◌++◌, length, map, codes, decimal, Some, refl, sym, ap, ◌∙◌, subst, arith, append-nil, lit≤, IsUtf8}
use Rattle.std.specs.Prelude.{Option, option_and_then}
use Rattle.std.specs.List.{AllByRecursion}
use Rattle.std.proofs.lemmas.Str.{IsUtf8-append, IsUtf8-from_ascii, is_utf8-from_IsUtf8}
use Rattle.std.proofs.lemmas.Fmt.{IsAscii-decimal}
use Rattle.base_types.specs.declared.calls.Value.TheVariants.{Int}
use Rattle.json.specs.Json as json
use Rattle.json.specs.Lex.{tokens}
use Rattle.json.specs.Token.{Token}
use Rattle.json.specs.Print.{print, quoted, escape_byte}
use Rattle.json.specs.Tree as tree
use Rattle.json.proofs.Printed.Decimals.{IsNumber-decimal}
use Rattle.json.proofs.Printed.Tokens.{tokens-print}
use Rattle.json.proofs.Printed.Trees.{value-json_tokens, ArePrintable-json_tokens}
use Rattle.json.proofs.Printed.Utf8.{IsUtf8-are_ascii, IsUtf8-quoted}
use Rattle.serde_json.specs.Data.{Data, string, array, object, Items, member, no_members}
use Rattle.serde_json.specs.Read.{read, of_json, of_items}
use Rattle.serde_json.specs.Written.{outline, items_outline, compact_text, items_text, comma_if}
use Rattle.serde_json.proofs.Numbers.{number_of-decimal}
use Rattle.serde_json.proofs.Texts.{print-outline}
use Rattle.request_wire.specs.Request.{json_of}
use Rattle.promise_spec.specs.Reports.{items_of}

-- numbers as JSON
abbrev pub numbers_data : List ℕ → Items
numbers_data ns = items_of (map (λ n. Int (pos n)) ns)

-- numbers that a value has room for
abbrev pub AreSmall : List ℕ → Type 0
AreSmall ns = AllByRecursion (λ n. n < 2 ^ 63) ns

-- a request of these numbers and this name
abbrev pub request_of : List ℕ → List ℕ → Data
request_of ns name = object (member (codes "args") (array (numbers_data ns)) (member (codes "call") (string name) no_members))

-- ---- it reads back

items_read : (ns : List ℕ) → AreSmall ns → of_items (items_outline (numbers_data ns)) ≡ Some (numbers_data ns)
items_read [] small = refl
items_read (n ∷ ns) small = rw (number_of-decimal n (omega (arith, small.0)), items_read ns small.1) refl

items_numbered : (ns : List ℕ) → AreSmall ns → tree.ItemsHaveNumbers (items_outline (numbers_data ns))
items_numbered [] small = tt
items_numbered (n ∷ ns) small = (IsNumber-decimal n (omega (arith, small.0)), items_numbered ns small.1)

items_flat : (ns : List ℕ) → tree.items_depth (items_outline (numbers_data ns)) ≡ 0
items_flat [] = refl
items_flat (n ∷ ns) = rw (items_flat ns) refl

-- the data of tokens that are read to their end
abbrev whole : Option (json.Json × List Token) → Option Data
whole o = option_and_then of_json (option_and_then (λ p. json.if_last p.0 p.1) o)

module _ (ns name : List ℕ) (small : AreSmall ns) where
  of_request : of_json (outline (request_of ns name)) ≡ Some (request_of ns name)
  of_request = rw (items_read ns small) refl

  shallow : tree.depth (outline (request_of ns name)) ≤ 127
  shallow = rw (items_flat ns) (lit≤ tt)

  tokens_are : tokens (compact_text (request_of ns name)) ≡ tree.json_tokens (outline (request_of ns name))
  tokens_are =
      ap tokens (sym (print-outline (request_of ns name)))
      ∙ tokens-print (tree.json_tokens (outline (request_of ns name))) (ArePrintable-json_tokens (outline (request_of ns name)) (items_numbered ns small, (tt, tt)))

  reads : read (compact_text (request_of ns name)) ≡ Some (request_of ns name)
  reads =
      ap whole (ap (json.value 127) (tokens_are ∙ sym (append-nil (tree.json_tokens (outline (request_of ns name))))) ∙ value-json_tokens (outline (request_of ns name)) 127 [] shallow)
      ∙ of_request

-- ---- it is text

decimal_utf8 : (n : ℕ) → n < 2 ^ 63 → IsUtf8 (decimal n)
decimal_utf8 n small = IsUtf8-from_ascii (decimal n) (IsAscii-decimal n (omega (arith, small)))

comma_utf8 : (later : Bool) → IsUtf8 (comma_if later)
comma_utf8 true = IsUtf8-are_ascii (44 ∷ []) refl
comma_utf8 false = IsUtf8-are_ascii [] refl

items_utf8 : (later : Bool) (ns : List ℕ) → AreSmall ns → IsUtf8 (items_text later (numbers_data ns))
items_utf8 later [] small = IsUtf8-are_ascii (93 ∷ []) refl
items_utf8 later (n ∷ ns) small =
    IsUtf8-append (comma_if later) (decimal n ++ items_text true (numbers_data ns)) (comma_utf8 later)
    (IsUtf8-append (decimal n) (items_text true (numbers_data ns)) (decimal_utf8 n small.0) (items_utf8 true ns small.1))

request_utf8 : (ns name : List ℕ) → AreSmall ns → IsUtf8 name → IsUtf8 (compact_text (request_of ns name))
unfolding escape_byte
request_utf8 ns name small text =
    IsUtf8-append (codes "{\"args\":[") (items_text false (numbers_data ns) ++ (codes ",\"call\":" ++ (quoted name ++ 125 ∷ []))) (IsUtf8-are_ascii (codes "{\"args\":[") refl)
    (IsUtf8-append (items_text false (numbers_data ns)) (codes ",\"call\":" ++ (quoted name ++ 125 ∷ [])) (items_utf8 false ns small)
    (IsUtf8-append (codes ",\"call\":") (quoted name ++ 125 ∷ []) (IsUtf8-are_ascii (codes ",\"call\":") refl)
    (IsUtf8-append (quoted name) (125 ∷ []) (IsUtf8-quoted name text) (IsUtf8-are_ascii (125 ∷ []) refl))))

-- so the text is that of this JSON
pub printed_reads : (ns name : List ℕ) → AreSmall ns → IsUtf8 name → json_of (compact_text (request_of ns name)) ≡ Some (request_of ns name)
printed_reads ns name small text = rw (is_utf8-from_IsUtf8 (compact_text (request_of ns name)) (request_utf8 ns name small text)) (reads ns name small)
