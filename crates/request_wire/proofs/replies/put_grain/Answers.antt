use Rattle.std.proofs.Common.{OnOk, ◌≡◌, ℕ, List, codes, ◌∙◌, subst}
use Rattle.serde_json.specs.Data.{string, put}
use Rattle.serde_json.specs.View.{members_view}
use Rattle.request_wire.proofs.replies.put_grain.Goals as goal

pub returns : goal.returns
returns c =
    subst (λ (text : List ℕ). OnOk c.put_text.result (members_view c.put_text.new.map.entries ≡ put (codes "grain") (string text) (members_view c.args.map.now.entries))) (c.as_str.ensures.value ∙ c.in_ok-text.ensures) c.put_text.ensures
