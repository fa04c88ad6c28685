use Rattle.std.proofs.Common.{Some, sym, ◌∙◌, ap}
use Rattle.std.specs.Prelude.{slice_get, ◌∷◌}
use Rattle.std.specs.Map.{keys_of}
use Rattle.activations.specs.LastUsed.{LastUsed, others}
use Rattle.base_types.specs.Grains.{same_grain}
use Rattle.core_model.specs.Tests.{any}
use Rattle.core_model.specs.Changes.{touched}
use Rattle.activations.proofs.PushedGrains.{key-there, pushed-grains, none_out, same_out, other_out}
use Rattle.activations.proofs.recent.Recent.touch.Goals as goal

pub returns-in_default-clause-grains : goal.returns-in_default-clause-grains
returns-in_default-clause-grains c =
    let pushed = pushed-grains c.args.grain c.self.inside.cache tt c.len.ensures.valid in
    ap (λ t. keys_of t.entries) c.in_ok-left.ensures.entries ∙ pushed ∙ (λ i. touched (Some (c.self.view_is i).limit) c.args.grain (c.self.view_is i).grains)

pub returns-in_default-clause-left : goal.returns-in_default-clause-left
returns-in_default-clause-left c =
    none_out c.args.grain c.self.inside.cache tt c.len.ensures.valid c.in_ok-left.field-0 c.in_ok-left.ensures.old c.in_default.not-Some ∙ (λ i. slice_get (c.args.grain ∷ others c.args.grain (c.self.view_is i).grains) (c.self.view_is i).limit)

pub returns-then-eq-clause-grains : goal.returns-then-eq-clause-grains
returns-then-eq-clause-grains c =
    let pushed = pushed-grains c.args.grain c.self.inside.cache tt c.len.ensures.valid in
    ap (λ t. keys_of t.entries) c.in_ok-left.ensures.entries ∙ pushed ∙ (λ i. touched (Some (c.self.view_is i).limit) c.args.grain (c.self.view_is i).grains)

pub returns-then-eq-clause-left : goal.returns-then-eq-clause-left
returns-then-eq-clause-left c =
    same_out c.args.grain c.self.inside.cache tt c.len.ensures.valid c.in_ok-left.field-0 c.in_ok-left.ensures.old (c.in-Some.left, c.in-Some.field-0-1) c.in-Some.is (sym c.eq.ensures ∙ c.if-eq.true) ∙ (λ i. slice_get (c.args.grain ∷ others c.args.grain (c.self.view_is i).grains) (c.self.view_is i).limit)

pub returns-clause-grains : goal.returns-clause-grains
returns-clause-grains c =
    let pushed = pushed-grains c.args.grain c.self.inside.cache tt c.len.ensures.valid in
    ap (λ t. keys_of t.entries) c.in_ok-left.ensures.entries ∙ pushed ∙ (λ i. touched (Some (c.self.view_is i).limit) c.args.grain (c.self.view_is i).grains)

pub returns-clause-left : goal.returns-clause-left
returns-clause-left c =
    other_out c.args.grain c.self.inside.cache tt c.len.ensures.valid c.in_ok-left.field-0 c.in_ok-left.ensures.old (c.in-Some.left, c.in-Some.field-0-1) c.in-Some.is (sym c.eq.ensures ∙ c.if-eq.false) ∙ (λ i. slice_get (c.args.grain ∷ others c.args.grain (c.self.view_is i).grains) (c.self.view_is i).limit)

pub returns-in_err-left-clause-sure : goal.returns-in_err-left-clause-sure
returns-in_err-left-clause-sure c = λ there.
    let known = key-there c.args.grain c.self.inside.cache.entries ∙ ap (λ (r : LastUsed). any (same_grain c.args.grain) r.grains) c.self.view_is ∙ there in
    absurd (cc (c.in_err-left.ensures.succeeds known))
