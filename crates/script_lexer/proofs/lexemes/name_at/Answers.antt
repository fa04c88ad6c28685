use Rattle.std.proofs.Common.{◌≡◌, ◌+◌, ◌∷◌, drop, take, get_or, ap, ◌∙◌, Some, None}
use Rattle.std.specs.List.{prefix_len}
use Rattle.script_lexer.specs.declared.tokens.Token.TheVariants as token
use Rattle.script_lexer.specs.Spellings.{in_name}
use Rattle.script_lexer.specs.Lexemes.{word_named, name_token}
use Rattle.script_lexer.proofs.Cuts.{name_boundary, name_bytes, name_found}
use Rattle.script_lexer.proofs.lexemes.name_at.Goals as goal
use Rattle.script_lexer.proofs.lexemes.name_at.Goals.{in-Some, in-None+in_ok-new-in-None}

pub range-name-requires-clause-end_boundary : goal.range-name-requires-clause-end_boundary
range-name-requires-clause-end_boundary c =
    let len : prefix_len in_name (drop (c.args.at + 1) c.args.text.now) ≡ c.name_len-more.result = cc in
    name_boundary c.args.text.now c.args.at c.name_len-more.result len c.utf8.text c.requires.within c.requires.letter

pub returns : goal.returns
returns c =
    let text = c.args.text.now in
    let len : prefix_len in_name (drop (c.args.at + 1) text) ≡ c.name_len-more.result = cc in
    let name : c.range-name.result.now ≡ get_or text c.args.at 0 ∷ take c.name_len-more.result (drop (c.args.at + 1) text) = c.range-name.ensures.value ∙ name_bytes text c.args.at c.name_len-more.result c.requires.within in
    let word : c.word_of.result ≡ word_named c.range-name.result.now = cc in
    let found = name_found (get_or text c.args.at 0) (drop (c.args.at + 1) text) c.range-name.result.now in
    elim c.match-word_of.branch [
      | in-Some w ↦ let is : Some w.in-Some.word ≡ word_named c.range-name.result.now = cc in found (Some w.in-Some.word) c.name_len-more.result c.match-word_of.token len c.if-more-ge-NAME_LIMIT.false name is w.token-is
      | in-None+in_ok-new-in-None w ↦
          let is : None ≡ word_named c.range-name.result.now = cc in
          let named : c.match-word_of.token ≡ name_token None c.range-name.result.now = w.token-is ∙ ap token.Name w.in_ok-new-in-None.ensures in
          found None c.name_len-more.result c.match-word_of.token len c.if-more-ge-NAME_LIMIT.false name is named
    ]
