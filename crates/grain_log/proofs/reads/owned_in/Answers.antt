use Rattle.std.proofs.Common.{rules, Ok}
use Rattle.grain_log.specs.Reads.{BeginsBy}
use Rattle.grain_log.proofs.VersionUnits.{owned_gives, anothers_gives}
use Rattle.grain_log.proofs.reads.owned_in.Goals as goal

pub returns-then-not-begins_by-clause-exact : goal.returns-then-not-begins_by-clause-exact
returns-then-not-begins_by-clause-exact c seen here =
    let other : BeginsBy c.args.owner c.args.text.now → ⊥ = search rules in
    anothers_gives c.args.format c.args.owner c.args.place seen c.args.fields c.args.text.now c.requires.near c.requires.size here other

pub returns-clause-exact : goal.returns-clause-exact
returns-clause-exact c seen here =
    let own : BeginsBy c.args.owner c.args.text.now = search rules in
    owned_gives c.args.format c.args.owner c.args.place seen c.args.fields c.args.text.now c.requires.near c.requires.size here (Ok c.in_ok-version.version) own c.in_ok-version.ensures.exact
