use denote.Exit as exits
use denote.Param.Send.{IsSend, AllSend, sendable, param_send}
use mir.Syntax.{named}
use Rattle.std.proofs.Crossing.{crosses}
use Rattle.atomic_table.proofs.shared.Seat.TheSendSync as seat
use Rattle.atomic_table.proofs.shared.Shared.TheSendSync as shared
use Rattle.atomic_table.proofs.send_lease.SendLease.TheSendSync as lease
use Rattle.run_lines.proofs.SharedValues.{checked_sync}
use Rattle.silo_workers.proofs.CoreMoves.{core_send, captures_send}
use Rattle.silo_workers.proofs.crowd.+crowd.Lts-crowd as lts
use Rattle.std.proofs.Common.{sym, ap, subst, ◌∙◌}
use Rattle.script_tree.specs.Programs.{program_tree}
use Rattle.core_access.specs.PassSights.{sight_of}
use Rattle.core_access.specs.Sights.{Sight}
use Rattle.history_core.specs.Cores.{run_of}
use Rattle.silo_workers.specs.declared.crowd.Gathered.{Gathered}
use Rattle.silo_workers.specs.SettlerThread.{HasSettled}
use Rattle.silo_workers.specs.WorkerPasses.{BringsBack, BringsTogether, CorePass}
use Rattle.silo_workers.proofs.JoinedPasses.{brought-together}
use Rattle.silo_workers.proofs.crowd.+crowd.Goals as goal
use Rattle.run_books.specs.Stages.{side_of}

pub returns-in-Ok-clause-together : goal.returns-in-Ok-clause-together
returns-in-Ok-clause-together g t c =
    let all = c.args.team.now in
    let types = program_tree all.checked.now in
    let lines = g.L.Lines.lines all.lines.now in
    let v = c.args.pass in
    let u = c.join.result in
    let own : Gathered → Sight → Sight → Type 0 = λ x. HasSettled x.started g.H.Host.tells c.args.shape.now (side_of g.H.Host.world g.H.Host.faults c.args.settler.now c.args.host.now) (side_of g.H.Host.world g.H.Host.faults c.crowd-pass.new.settler c.crowd-pass.new.host) x.settled in
    let back : BringsBack types all.before lines c.join-other.result.1 c.split-pass.result.1 c.join-other.result.0 =
    subst (λ (o : CorePass). BringsBack types all.before lines c.join-other.result.1 o c.join-other.result.0) c.of.ensures
    (subst (λ p. BringsBack (program_tree p.checked.now) p.before (g.L.Lines.lines p.lines.now) c.join-other.result.1 p.was.value c.join-other.result.0) c.in-Ok.ensures.ok c.join-other.ensures) in
    subst (λ (x : Gathered). BringsTogether all.cell (own x (sight_of run_of v.me.0)) types all.before lines x.end v u) (sym c.and.ensures)
    (brought-together (own c.crowd-pass.result.1) all.cell types all.before lines c.join-other.result.1 c.crowd-pass.result.1.end v c.split-pass.result.0 c.split-pass.result.1 c.join-other.result.0 c.crowd-pass.result.0 u
    c.split-pass.ensures.splitter c.split-pass.ensures.split_off c.crowd-pass.ensures.together back c.join.ensures.own c.join.ensures.joins)

pub returns-in-Err-clause-together : goal.returns-in-Err-clause-together
returns-in-Err-clause-together g t c =
    let all = c.args.team.now in
    let types = program_tree all.checked.now in
    let lines = g.L.Lines.lines all.lines.now in
    let v = c.args.pass in
    let u = c.join-in-Err.result in
    let own : Gathered → Sight → Sight → Type 0 = λ x. HasSettled x.started g.H.Host.tells c.args.shape.now (side_of g.H.Host.world g.H.Host.faults c.args.settler.now c.args.host.now) (side_of g.H.Host.world g.H.Host.faults c.crowd-pass-in-Err.new.settler c.crowd-pass-in-Err.new.host) x.settled in
    let back : BringsBack types all.before lines c.job-other.result.1 c.split-pass.result.1 c.job-other.result.0 =
    subst (λ f. BringsBack (program_tree f.3.now) f.5 (g.L.Lines.lines f.4.now) c.job-other.result.1 f.8 c.job-other.result.0) c.in-Err.ensures.err c.job-other.ensures in
    subst (λ (x : Gathered). BringsTogether all.cell (own x (sight_of run_of v.me.0)) types all.before lines x.end v u) (sym c.and-in-Err.ensures)
    (brought-together (own c.crowd-pass-in-Err.result.1) all.cell types all.before lines c.job-other.result.1 c.crowd-pass-in-Err.result.1.end v c.split-pass.result.0 c.split-pass.result.1 c.job-other.result.0 c.crowd-pass-in-Err.result.0 u
    c.split-pass.ensures.splitter c.split-pass.ensures.split_off c.crowd-pass-in-Err.ensures.together back c.join-in-Err.ensures.own c.join-in-Err.ensures.joins)

pub spawn_with-requires-send-T : goal.spawn_with-requires-send-T
spawn_with-requires-send-T g t c κs = search (sendable, crosses, seat.the_send, core_send) depth 60 fits 90000

pub spawn_with-requires-send-F : goal.spawn_with-requires-send-F
spawn_with-requires-send-F g t c κs = λ out.
    let each : AllSend (lts.of-58 g.row.E g.row.R g.row.H g.row.G g.row.L g.E.laws g.R.laws g.H.laws g.G.laws g.L.laws g.L.copy g.R.Threads g.R.Threads-dict g.R.Wait g.R.Wait-dict g.H.Host g.H.Host-dict g.G.Gate g.G.Gate-dict g.L.Lines g.L.Lines-dict g.L.Clone g.L.Clone-dict (record { mir = named 6; lft = κs.1.1.1.1.1.1.0 }) (record { mir = named 7; lft = κs.1.1.1.1.1.1.1.0 }) (record { mir = named 8; lft = κs.1.1.1.1.1.1.1.1.0 }) (record { mir = named 9; lft = κs.1.1.1.1.1.1.1.1.1.0 }) (record { mir = named 10; lft = κs.1.1.1.1.1.1.1.1.1.1.0 }) (record { mir = named 11; lft = κs.1.1.1.1.1.1.1.1.1.1.1.0 }) (record { mir = named 12; lft = κs.1.1.1.1.1.1.1.1.1.1.1.1.0 })) = (search (sendable, crosses) depth 60 fits 90000, (search (sendable, c.requires.shared) depth 60, (search (sendable, crosses) depth 60 fits 90000, (search (sendable, checked_sync) depth 60 fits 90000, (search (sendable, c.requires.shared) depth 60, (search (sendable, crosses) depth 60 fits 90000, (search (sendable, crosses) depth 60 fits 90000, (search (sendable, crosses, shared.the_sync, lease.the_sync, core_send) depth 60 fits 90000, (search (sendable, crosses, seat.the_send, core_send) depth 60 fits 90000, (search (sendable, c.requires.shared) depth 60, (search (sendable, crosses) depth 60 fits 90000, tt))))))))))) in
    let whole : IsSend (lts.of-60 g.row.E g.row.R g.row.H g.row.G g.row.L g.E.laws g.R.laws g.H.laws g.G.laws g.L.laws g.L.copy g.R.Threads g.R.Threads-dict g.R.Wait g.R.Wait-dict g.H.Host g.H.Host-dict g.G.Gate g.G.Gate-dict g.L.Lines g.L.Lines-dict g.L.Clone g.L.Clone-dict (record { mir = named 6; lft = κs.1.1.1.1.1.1.0 }) (record { mir = named 7; lft = κs.1.1.1.1.1.1.1.0 }) (record { mir = named 8; lft = κs.1.1.1.1.1.1.1.1.0 }) (record { mir = named 9; lft = κs.1.1.1.1.1.1.1.1.1.0 }) (record { mir = named 10; lft = κs.1.1.1.1.1.1.1.1.1.1.0 }) (record { mir = named 11; lft = κs.1.1.1.1.1.1.1.1.1.1.1.0 }) (record { mir = named 12; lft = κs.1.1.1.1.1.1.1.1.1.1.1.1.0 })) = captures_send _ (lts.of-58 g.row.E g.row.R g.row.H g.row.G g.row.L g.E.laws g.R.laws g.H.laws g.G.laws g.L.laws g.L.copy g.R.Threads g.R.Threads-dict g.R.Wait g.R.Wait-dict g.H.Host g.H.Host-dict g.G.Gate g.G.Gate-dict g.L.Lines g.L.Lines-dict g.L.Clone g.L.Clone-dict (record { mir = named 6; lft = κs.1.1.1.1.1.1.0 }) (record { mir = named 7; lft = κs.1.1.1.1.1.1.1.0 }) (record { mir = named 8; lft = κs.1.1.1.1.1.1.1.1.0 }) (record { mir = named 9; lft = κs.1.1.1.1.1.1.1.1.1.0 }) (record { mir = named 10; lft = κs.1.1.1.1.1.1.1.1.1.1.0 }) (record { mir = named 11; lft = κs.1.1.1.1.1.1.1.1.1.1.1.0 }) (record { mir = named 12; lft = κs.1.1.1.1.1.1.1.1.1.1.1.1.0 })) each in
    param_send 2 (lts.arg-5-2 g.row.E g.row.R g.row.H g.row.G g.row.L g.E.laws g.R.laws g.H.laws g.G.laws g.L.laws g.L.copy g.R.Threads g.R.Threads-dict g.R.Wait g.R.Wait-dict g.H.Host g.H.Host-dict g.G.Gate g.G.Gate-dict g.L.Lines g.L.Lines-dict g.L.Clone g.L.Clone-dict κs) record { owned = whole.owned; leaving = λ k. whole.leaving exits.no }

pub spawn_with-requires-clause-keeps : goal.spawn_with-requires-clause-keeps
spawn_with-requires-clause-keeps g t c κs lives r back =
    subst (λ (o : CorePass). BringsBack (program_tree c.args.team.now.checked.now) c.args.team.now.before (g.L.Lines.lines c.args.team.now.lines.now) r.1 o r.0) (sym c.of.ensures) back

pub returns-in-Ok-clause-none : goal.returns-in-Ok-clause-none
returns-in-Ok-clause-none g t c = λ q. c.crowd-pass.ensures.none (sym (ap (λ (x : Gathered). x.started) c.and.ensures) ∙ q)

pub returns-in-Err-clause-none : goal.returns-in-Err-clause-none
returns-in-Err-clause-none g t c = λ q. c.crowd-pass-in-Err.ensures.none (sym (ap (λ (x : Gathered). x.started) c.and-in-Err.ensures) ∙ q)
