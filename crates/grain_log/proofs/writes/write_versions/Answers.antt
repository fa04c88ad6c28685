use Rattle.std.proofs.Common.{rules, ◌≡◌, ◌+◌, List, ℕ, take, ap, ◌∙◌, sym, subst}
use Rattle.host_trait.specs.Disk.{settled, overlaid}
use Rattle.host_trait.proofs.Runs.{settled_image}
use Rattle.grain_log.specs.Places.{spelling_of_versions, VersionsStand}
use Rattle.grain_log.proofs.VersionPlaces.{written_stands, written_before}
use Rattle.grain_log.proofs.writes.write_versions.Goals as goal

pub returns-clause-wrote : goal.returns-clause-wrote
returns-clause-wrote g c told =
    let w0 = g.H.Host.world c.args.host.now in
    let w1 = g.H.Host.world c.write_synced.new.host in
    let seen = (w0.disk c.args.file).seen in
    let bytes : List ℕ = overlaid seen c.args.at (spelling_of_versions c.args.versions.now) in
    let there : w1.disk c.args.file ≡ settled bytes = search rules in
    let once : w1.syncs ≡ w0.syncs + 1 = search rules in
    record {
      there = there;
      once = once;
      stand = λ image left. subst (λ (f : List ℕ). VersionsStand f c.args.at c.args.versions.now) (sym (settled_image w1.disk c.args.file bytes image there left)) (written_stands seen c.args.at c.args.versions.now (c.requires.within told));
      front = λ image left. ap (take c.args.at) (settled_image w1.disk c.args.file bytes image there left) ∙ written_before seen c.args.at (spelling_of_versions c.args.versions.now) (c.requires.within told);
    }
