use Rattle.std.proofs.Common.{◌≡◌, ◌∙◌, inl, inr, sym, subst, arith, ℕ}
use Rattle.std.proofs.lemmas.Bool.{cases_lt}
use Rattle.unit_carrier.specs.CarriedUnits.{unit_at}
use Rattle.interleaver.proofs.SkippedUnits.{not-twice, some-same}
use Rattle.interleaver.proofs.turns.Turns.moved_between.Goals as goal

-- it stands where it stood, and so nowhere else
pub returns-then-stands_at-clause-others : goal.returns-then-stands_at-clause-others
returns-then-stands_at-clause-others c = λ i low high.
    let here = c.stands_at.ensures.stands c.if-stands_at.true in
    let most = c.requires.within in
    let end = c.place_between.ensures.within in
    not-twice c.args.self.now.agents.list.items c.requires.older c.args.self.now.moved c.in-Some.moved c.args.self.now.moved_at i c.in-Some.is here.0 (omega (arith, high, end, most)) here.1
    (elim c.place_between.ensures.place [
      | inl is ↦ λ q. absurd (omega (arith, is, q, high))
      | inr x ↦ elim x.1 [ inl before ↦ λ q. absurd (omega (arith, before, q, low)) | inr behind ↦ λ q. absurd (omega (arith, behind, q, high, end)) ]
    ])

-- it doesn't stand at this index either
pub loop-index-preserved : goal.loop-index-preserved
loop-index-preserved c = record {
  low = (let low = c.loop-index.invariant.low in omega (arith, low));
  others = λ i low high is. elim (cases_lt i c.loop-index.index) [
    | inl before ↦ c.loop-index.invariant.others i low before is
    | inr behind ↦
        let at : i ≡ c.loop-index.index = omega (arith, behind, high) in
        let less = c.loop-index-test.true in
        let most = c.requires.within in
        c.stands_at-in-loop-index.ensures.other c.if-stands_at-2.false (omega (arith, less, most))
        (subst (λ (n : ℕ). unit_at c.args.self.now.agents.list.items n ≡ c.in-Some.moved) at (some-same (unit_at c.args.self.now.agents.list.items i) c.in-Some.moved (sym is ∙ c.in-Some.is)))
  ];
}
