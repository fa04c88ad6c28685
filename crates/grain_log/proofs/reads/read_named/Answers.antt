use Rattle.std.proofs.Common.{rules, ◌≡◌, ◌-◌, ◌≤◌, ℕ, Option, Some, length, take, drop, ap, ◌∙◌}
use Rattle.grain_log.specs.Reads.{fields_in, version_by_owner, IsTextAt}
use Rattle.grain_log.proofs.reads.read_named.Goals as goal

pub returns-clause-exact : goal.returns-clause-exact
returns-clause-exact g c told =
    let place = c.args.place in
    let seen = ((g.H.Host.world c.args.host.now).disk c.args.file).seen in
    let fields : fields_in c.args.shape.now c.args.file ≡ Some c.in-Some.fields = search rules in
    let there : (place.len ≤ length seen - place.offset) × (c.in-Some-2.text.items ≡ take place.len (drop place.offset seen)) = search rules in
    let here : IsTextAt place seen c.deref.result.now = record { within = there.0; bytes = c.deref.ensures.value ∙ there.1 } in
    ap (λ (o : Option ℕ). version_by_owner c.args.format o c.args.owner place seen) fields ∙ c.in_ok-version.ensures.exact seen here
