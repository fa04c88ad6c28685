use Rattle.std.proofs.Common.{rules, ◌≡◌, ◌≤◌, ◌<◌, ◌+◌, ◌^◌, inl, inr, ℕ, List, length, Some, Ok, Err, refl, sym, ap, subst, ◌∙◌}
use Rattle.host_trait.specs.Faults.{NoneFailed}
use Rattle.script_tree.specs.Programs.{ProgramTree, program_tree}
use Rattle.script_check.specs.Comparison.{GoesOnFrom, compared}
use Rattle.program_file.specs.Programs.{program_in}
use Rattle.promise_spec.specs.Endings.{Done, Memory, HasFailedAs}
use Rattle.promise_spec.specs.Upgrading.{UpgradesAs, UpgradesSilo}
use Rattle.silo_opening.specs.OpenedSilo.{ending_of as open_ending}
use Rattle.silo_upgrade.specs.declared.faults.UpgradeEnd.{UpgradeEnd}
use Rattle.silo_upgrade.specs.Endings.{ending_for, ended_so, upgraded_as}
use Rattle.silo_upgrade.specs.Steps.{HasReadText}
use Rattle.silo_upgrade.proofs.UpgradeEnds.{open_failed, calm_before, never_bad_use, never_done}
use Rattle.silo_upgrade.proofs.UpgradedFolders.{is_unopened, is_refused, is_upgraded, upgrades, done_so, nothing_so}
use Rattle.silo_upgrade.proofs.upgrading.upgrade.Goals as goal

pub returns-in-Err-open_silo-clause-upgrades : goal.returns-in-Err-open_silo-clause-upgrades
returns-in-Err-open_silo-clause-upgrades g c told manner asked =
    let w0 = g.H.Host.world c.args.host.now in
    let w1 = g.H.Host.world c.read_program.new.host in
    let w2 = g.H.Host.world c.open_silo.new.host in
    let f0 = g.H.Host.faults c.args.host.now in
    let f1 = g.H.Host.faults c.read_program.new.host in
    let f2 = g.H.Host.faults c.open_silo.new.host in
    let fault = c.in-Err-open_silo.fault in
    let text : List ℕ = (c.in-Ok.read.0).items in
    let types : ProgramTree = program_tree c.in-Ok.read.1 in
    let small : length text ≤ 262144 = search rules in
    inr (inl (is_unopened manner asked f0 w0 w1 text types (c.in-Ok.ensures.read told) small c.in-Ok.ensures.program w2 (c.open_silo.ensures.only told) f2 (open_ending fault)
    (c.in-Err-open_silo.ensures.refused told) (calm_before (open_ending fault) f0 f1 f2 c.in-Ok.ensures.calls.exact (open_failed f1 f2 fault c.in-Err-open_silo.ensures.calls.fault))))

pub returns-in-Err-session_for-clause-upgrades : goal.returns-in-Err-session_for-clause-upgrades
returns-in-Err-session_for-clause-upgrades g c told manner asked =
    let w0 = g.H.Host.world c.args.host.now in
    let w1 = g.H.Host.world c.read_program.new.host in
    let w2 = g.H.Host.world c.open_silo.new.host in
    let f0 = g.H.Host.faults c.args.host.now in
    let f2 = g.H.Host.faults c.open_silo.new.host in
    let o = c.in-Ok-open_silo.opened in
    let text : List ℕ = (c.in-Ok.read.0).items in
    let types : ProgramTree = program_tree c.in-Ok.read.1 in
    let small : length text ≤ 262144 = search rules in
    let calm : NoneFailed f0 f2 = λ channel. c.in-Ok-open_silo.ensures.calls.calm channel ∙ c.in-Ok.ensures.calls.exact channel in
    elim c.in-Err-session_for.ensures.refused [
      | inl want ↦ subst (λ (e : UpgradeEnd). UpgradesSilo (upgraded_as {A = Unit {0}} manner asked w0 w2 f0 f2 (Err e))) (sym want)
          (inr (inl (is_unopened manner asked f0 w0 w1 text types (c.in-Ok.ensures.read told) small c.in-Ok.ensures.program w2 (c.open_silo.ensures.only told) f2 Memory tt calm)))
      | inr other ↦ subst (λ (e : UpgradeEnd). UpgradesSilo (upgraded_as {A = Unit {0}} manner asked w0 w2 f0 f2 (Err e))) (sym other.1)
          (inr (inr (inl (is_refused manner asked f0 w0 w1 text types (c.in-Ok.ensures.read told) small c.in-Ok.ensures.program w2 (c.open_silo.ensures.only told) o (c.in-Ok-open_silo.ensures.opened told)
          f2 other.0 (let differs : compared (program_tree o.checked) types (length text) ≡ Some other.0 = search (rules, other.2) in differs) calm))))
    ]

pub returns-in-Ok-seal_upgrade-clause-upgrades : goal.returns-in-Ok-seal_upgrade-clause-upgrades
returns-in-Ok-seal_upgrade-clause-upgrades g c told manner asked =
    let w0 = g.H.Host.world c.args.host.now in
    let w1 = g.H.Host.world c.read_program.new.host in
    let w2 = g.H.Host.world c.open_silo.new.host in
    let w3 = g.H.Host.world c.seal_upgrade.new.host in
    let f0 = g.H.Host.faults c.args.host.now in
    let f3 = g.H.Host.faults c.seal_upgrade.new.host in
    let o = c.in-Ok-open_silo.opened in
    let text : List ℕ = c.deref.result.now in
    let types : ProgramTree = program_tree c.in-Ok.read.1 in
    let small : length text ≤ 262144 = search rules in
    let read : HasReadText text w0 w1 = subst (λ (t : List ℕ). HasReadText t w0 w1) (sym c.deref.ensures.value) (c.in-Ok.ensures.read told) in
    let is : program_in text ≡ Ok types = ap program_in c.deref.ensures.value ∙ c.in-Ok.ensures.program in
    let follows : GoesOnFrom (program_tree o.checked) types = c.in-Ok-session_for.ensures.follows in
    let opens = c.open_silo.ensures.only told in
    let left = c.in-Ok-open_silo.ensures.opened told in
    let run = c.seal_upgrade.ensures.run told in
    let session : ℕ = c.in-Ok-session_for.session in
    let next : session ≡ o.session + 1 = c.in-Ok-session_for.ensures.next.0 in
    let low : session < 2 ^ 63 = c.in-Ok-session_for.ensures.next.1 in
    let has = c.in-Ok-seal_upgrade.ensures.done told in
    inr (inr (inr (is_upgraded manner asked f0 w0 w1 text types read small is w2 opens o left follows w3 f3 Done session next low run
    (done_so manner asked f0 w0 w1 text types read small is w2 opens o left follows w3 f3 Done session next low run has)
    (λ channel. c.in-Ok-seal_upgrade.ensures.calls.exact channel ∙ (c.in-Ok-open_silo.ensures.calls.calm channel ∙ c.in-Ok.ensures.calls.exact channel))
    (upgrades manner asked f0 w0 w1 text types read small is w2 opens o left follows w3 f3 Done session next low run (c.seal_upgrade.ensures.logs told) (λ done. has)
    (λ file. g.met.H.Host.seen_may_stay c.args.host.now file told) (λ file. g.met.H.Host.seen_may_stay c.open_silo.new.host file told)))))

pub returns-clause-upgrades : goal.returns-clause-upgrades
returns-clause-upgrades g c told manner asked =
    let w0 = g.H.Host.world c.args.host.now in
    let w1 = g.H.Host.world c.read_program.new.host in
    let w2 = g.H.Host.world c.open_silo.new.host in
    let w3 = g.H.Host.world c.seal_upgrade.new.host in
    let f0 = g.H.Host.faults c.args.host.now in
    let f1 = g.H.Host.faults c.read_program.new.host in
    let f2 = g.H.Host.faults c.open_silo.new.host in
    let f3 = g.H.Host.faults c.seal_upgrade.new.host in
    let o = c.in-Ok-open_silo.opened in
    let e = c.in-Err-seal_upgrade.end in
    let text : List ℕ = c.deref.result.now in
    let types : ProgramTree = program_tree c.in-Ok.read.1 in
    let small : length text ≤ 262144 = search rules in
    let read : HasReadText text w0 w1 = subst (λ (t : List ℕ). HasReadText t w0 w1) (sym c.deref.ensures.value) (c.in-Ok.ensures.read told) in
    let is : program_in text ≡ Ok types = ap program_in c.deref.ensures.value ∙ c.in-Ok.ensures.program in
    let follows : GoesOnFrom (program_tree o.checked) types = c.in-Ok-session_for.ensures.follows in
    let opens = c.open_silo.ensures.only told in
    let left = c.in-Ok-open_silo.ensures.opened told in
    let run = c.seal_upgrade.ensures.run told in
    let session : ℕ = c.in-Ok-session_for.session in
    let next : session ≡ o.session + 1 = c.in-Ok-session_for.ensures.next.0 in
    let low : session < 2 ^ 63 = c.in-Ok-session_for.ensures.next.1 in
    let ends_as : UpgradesAs (ending_for e) o.slot (ended_so manner asked w0 w3 f0 f3 (ending_for e)) = elim c.in-Err-seal_upgrade.ensures.stopped [
      | inl same ↦ subst (λ (x : UpgradeEnd). UpgradesAs (ending_for x) o.slot (ended_so manner asked w0 w3 f0 f3 (ending_for x))) (sym same) refl
      | inr want ↦ subst (λ (x : UpgradeEnd). UpgradesAs (ending_for x) o.slot (ended_so manner asked w0 w3 f0 f3 (ending_for x))) (sym want.0)
          (nothing_so manner asked f0 w0 w1 text types read small is w2 opens o left follows w3 f3 (ending_for e) session next low run (ap g.H.Host.world want.1))
    ] in
    inr (inr (inr (is_upgraded manner asked f0 w0 w1 text types read small is w2 opens o left follows w3 f3 (ending_for e) session next low run ends_as
    (calm_before (ending_for e) f0 f2 f3 (λ channel. c.in-Ok-open_silo.ensures.calls.calm channel ∙ c.in-Ok.ensures.calls.exact channel) c.in-Err-seal_upgrade.ensures.calls.exact)
    (upgrades manner asked f0 w0 w1 text types read small is w2 opens o left follows w3 f3 (ending_for e) session next low run (c.seal_upgrade.ensures.logs told) (λ done. absurd (never_done e done))
    (λ file. g.met.H.Host.seen_may_stay c.args.host.now file told) (λ file. g.met.H.Host.seen_may_stay c.open_silo.new.host file told)))))

pub returns-in-Err-clause-calls : goal.returns-in-Err-clause-calls
returns-in-Err-clause-calls g c = record {
  exact = c.in-Err.ensures.calls.exact;
  ready = c.read_program.ensures.calls.ready;
}

pub returns-in-Err-clause-good : goal.returns-in-Err-clause-good
returns-in-Err-clause-good g c = never_bad_use c.in-Err.end

pub returns-in-Err-open_silo-clause-calls : goal.returns-in-Err-open_silo-clause-calls
returns-in-Err-open_silo-clause-calls g c =
    let f0 = g.H.Host.faults c.args.host.now in
    let f1 = g.H.Host.faults c.read_program.new.host in
    let f2 = g.H.Host.faults c.open_silo.new.host in
    let fault = c.in-Err-open_silo.fault in
    record {
      exact = calm_before (open_ending fault) f0 f1 f2 c.in-Ok.ensures.calls.exact (open_failed f1 f2 fault c.in-Err-open_silo.ensures.calls.fault);
      ready = λ at was. c.open_silo.ensures.calls.ready at (c.read_program.ensures.calls.ready at was);
    }

pub returns-in-Err-open_silo-clause-good : goal.returns-in-Err-open_silo-clause-good
returns-in-Err-open_silo-clause-good g c = never_bad_use (UpgradeEnd.Unopened c.in-Err-open_silo.fault)

pub returns-in-Err-session_for-clause-calls : goal.returns-in-Err-session_for-clause-calls
returns-in-Err-session_for-clause-calls g c =
    let f0 = g.H.Host.faults c.args.host.now in
    let f2 = g.H.Host.faults c.open_silo.new.host in
    let calm : NoneFailed f0 f2 = λ channel. c.in-Ok-open_silo.ensures.calls.calm channel ∙ c.in-Ok.ensures.calls.exact channel in
    record {
      exact = elim c.in-Err-session_for.ensures.refused [
        | inl want ↦ subst (λ (e : UpgradeEnd). HasFailedAs (ending_for e) f0 f2) (sym want) calm
        | inr other ↦ subst (λ (e : UpgradeEnd). HasFailedAs (ending_for e) f0 f2) (sym other.1) calm
      ];
      ready = λ at was. c.open_silo.ensures.calls.ready at (c.read_program.ensures.calls.ready at was);
    }

pub returns-in-Err-session_for-clause-good : goal.returns-in-Err-session_for-clause-good
returns-in-Err-session_for-clause-good g c = never_bad_use c.in-Err-session_for.end

pub returns-in-Ok-seal_upgrade-clause-calls : goal.returns-in-Ok-seal_upgrade-clause-calls
returns-in-Ok-seal_upgrade-clause-calls g c = record {
  exact = λ channel. c.in-Ok-seal_upgrade.ensures.calls.exact channel ∙ (c.in-Ok-open_silo.ensures.calls.calm channel ∙ c.in-Ok.ensures.calls.exact channel);
  ready = λ at was. c.seal_upgrade.ensures.calls.ready at (c.open_silo.ensures.calls.ready at (c.read_program.ensures.calls.ready at was));
}

pub returns-clause-calls : goal.returns-clause-calls
returns-clause-calls g c =
    let f0 = g.H.Host.faults c.args.host.now in
    let f2 = g.H.Host.faults c.open_silo.new.host in
    let f3 = g.H.Host.faults c.seal_upgrade.new.host in
    let e = c.in-Err-seal_upgrade.end in
    record {
      exact = calm_before (ending_for e) f0 f2 f3 (λ channel. c.in-Ok-open_silo.ensures.calls.calm channel ∙ c.in-Ok.ensures.calls.exact channel) c.in-Err-seal_upgrade.ensures.calls.exact;
      ready = λ at was. c.seal_upgrade.ensures.calls.ready at (c.open_silo.ensures.calls.ready at (c.read_program.ensures.calls.ready at was));
    }

pub returns-clause-good : goal.returns-clause-good
returns-clause-good g c = never_bad_use c.in-Err-seal_upgrade.end
