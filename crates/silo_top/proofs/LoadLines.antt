-- The lines that a load draws, as they are read from their texts.
use Rattle.std.proofs.Common.{◌≡◌, ℕ, suc, ◌+◌, List, [], ◌∷◌, length, map, Ok, option_map, refl, ap, ◌∙◌}
use Rattle.std.specs.List.{AllByRecursion}
use Rattle.std.proofs.lemmas.Option.{slice_get-map}
use Rattle.base_types.specs.declared.calls.Call.{Call}
use Rattle.request_wire.specs.Names.{names_in}
use Rattle.request_wire.specs.Request.{call_of}
use Rattle.serde_json.specs.Written.{compact_text}
use Rattle.script_tree.specs.Programs.{ProgramTree}
use Rattle.promise_spec.specs.Loads.{load_calls, AskFor}
use Rattle.promise_spec.proofs.Lists.{each_of, member_at}
use Rattle.bank_load.specs.Requests.{numbered_from, request_data, load_texts}
use Rattle.silo_top.proofs.ReadLines.{AreReadFrom}

-- the text of a call
abbrev pub text_of : Call → List ℕ
text_of c = compact_text (request_data c)

-- each call is what its text reads as
abbrev pub AreReadBy : ProgramTree → List Call → Type 0
AreReadBy types calls = AllByRecursion (λ c. call_of (names_in types) (text_of c) ≡ Ok c) calls

pub lines_read : (types : ProgramTree) (n : ℕ) (calls : List Call) → AreReadBy types calls → AreReadFrom types n (map text_of calls) (numbered_from n calls)
lines_read types n [] all = tt
lines_read types n (c ∷ calls) all = (refl, all.0, lines_read types (n + 1) calls all.1)

many : (calls : List Call) → length (map text_of calls) ≡ length calls
many [] = refl
many (c ∷ calls) = ap suc (many calls)

pub numbered_many : (n : ℕ) (calls : List Call) → length (numbered_from n calls) ≡ length (map text_of calls)
numbered_many n [] = refl
numbered_many n (c ∷ calls) = ap suc (numbered_many (n + 1) calls)

-- so the texts ask for the calls
pub texts_ask : (types : ProgramTree) (n seed : ℕ) → AreReadBy types (load_calls n seed) → AskFor types (load_texts n seed) (load_calls n seed)
texts_ask types n seed all = record {
  count = many (load_calls n seed);
  each = λ i c there. record {
    index = i;
    text = text_of c;
    number = refl;
    there = slice_get-map text_of (load_calls n seed) i ∙ ap (option_map text_of) there;
    reads = each_of (λ (x : Call). call_of (names_in types) (text_of x) ≡ Ok x) (load_calls n seed) c all (member_at i c (load_calls n seed) there);
  };
}
