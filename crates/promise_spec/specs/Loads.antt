-- What `load` promises: to make a silo of the bank program, and to carry generated lines in it.
use Rattle.std.specs.Prelude.{◌≡◌, ◌≢◌, ℕ, zero, suc, ◌+◌, ◌*◌, ◌/◌, ◌%◌, ◌^◌, ◌≤◌, Bool, false, List, [], ◌∷◌, ◌++◌, length, map, slice_get, count_by, codes, ℤ, pos, ◌+ℤ◌, Some, ◌⊎◌}
use Rattle.base_types.specs.declared.calls.Call.{Call}
use Rattle.base_types.specs.declared.calls.GrainId.{GrainId}
use Rattle.base_types.specs.declared.calls.Value.{Value}
use Rattle.base_types.specs.declared.calls.Value.TheVariants.{Int}
use Rattle.base_types.specs.declared.entries.Entry.{Entry}
use Rattle.base_types.specs.declared.entries.Settled.{Settled}
use Rattle.core_model.specs.CoreState.{Member}
use Rattle.host_trait.specs.declared.channels.FileId.{FileId}
use Rattle.host_trait.specs.Disk.{MayLeave}
use Rattle.host_trait.specs.World.{World, Moment, Image, IsImage}
use Rattle.request_wire.specs.Reply.{value_data, counted}
use Rattle.serde_json.specs.Data.{object, member, no_members}
use Rattle.silo_spec.specs.Silos.{IsMadeFile}
use Rattle.silo_spec.specs.Slots.{ShowsSilos}
use Rattle.silo_spec.specs.Moments.{IsUntouched}
use Rattle.silo_spec.specs.Creation.{StaysBeside, IsNewAt, FromFirstSync, CameThisFar}
use Rattle.script_tree.specs.Programs.{ProgramTree}
use Rattle.promise_spec.specs.Programs.{Program}
use Rattle.promise_spec.specs.Records.{States}
use Rattle.promise_spec.specs.Entries.{standing_of}
use Rattle.promise_spec.specs.Logs.{IsMagic, IsLog}
use Rattle.promise_spec.specs.Lines.{IsLineCall}
use Rattle.promise_spec.specs.Kinds.{kind_of}
use Rattle.promise_spec.specs.Causes.{NoneRose, RunHasDoubt, syncs_of, most_syncs_of}
use Rattle.promise_spec.specs.Endings as ending
use Rattle.promise_spec.specs.Courses.{Observed, Course, order, moments, lines, seen_at_entry, program_in_force, core_run, core_end}
use Rattle.promise_spec.specs.Images.{IsSoundFolder}
use Rattle.promise_spec.specs.Orders.{IsOrdered}
use Rattle.promise_spec.specs.Crashes.{SurvivesCrashes, StaySound}
use Rattle.promise_spec.specs.Exits.{IsExit}
use Rattle.promise_spec.specs.Explanation.{ComeOfEvents, IsExplained}
use Rattle.promise_spec.specs.Promise.{IsAnswered, GoesThrough, HasNoChild, IsNoLock}
use Rattle.promise_spec.specs.Reports.{line_of}
use Rattle.promise_spec.specs.Words.{Manner}
use Rattle.promise_spec.specs.Refusals.{IsUnopened}
use Rattle.promise_spec.specs.Commands.{Prints, WasSilo, StaysSilo, ManagersLast, AreNewSilos}

-- ---- what is asked

-- the number after x, by which the calls are drawn
abbrev pub next_number : ℕ → ℕ
next_number x = (x * 6364136223846793005 + 1442695040888963407) % 2 ^ 64

-- what a number gives, below a bound
abbrev pub drawn : ℕ → ℕ → ℕ
drawn x bound = (x / 2147483648 / 4) % bound

-- the accounts are grains of the bank's first type, and the one that moves money between them is of its second
abbrev pub account : ℕ → GrainId
account k = record { kind = 0; key = k }

-- `atm/0`, which carries out each transfer
abbrev pub atm : GrainId
atm = record { kind = 1; key = 0 }

-- a call of a grain's first method with these numbers
abbrev pub first_method : GrainId → List ℕ → Call
first_method grain numbers = record { grain = grain; method = 0; args = map (λ n. Int (pos n)) numbers }

-- the transfer of which this number gives the first account, and the two after it the second one and the amount
abbrev pub transfer_by : ℕ → Call
transfer_by x =
    let y : ℕ = next_number x in
    let z : ℕ = next_number y in
    first_method atm (drawn x 64 ∷ drawn y 64 ∷ (drawn z 100 + 1) ∷ [])

-- so many transfers, of the numbers after x
abbrev pub transfers_after : ℕ → ℕ → List Call
transfers_after x zero = []
transfers_after x (suc n) =
    transfer_by (next_number x) ∷ transfers_after (next_number (next_number (next_number x))) n

-- so many deposits of 1000, from this account on
abbrev pub deposits_from : ℕ → ℕ → List Call
deposits_from k zero = []
deposits_from k (suc n) = first_method (account k) (1000 ∷ []) ∷ deposits_from (k + 1) n

-- the calls of a load: a deposit into each of 64 accounts, and n transfers between them, drawn from the seed on
abbrev pub load_calls : ℕ → ℕ → List Call
load_calls n seed = deposits_from 0 64 ++ transfers_after seed n

-- the lines ask for these calls, and for no more
pub record AskFor (types : ProgramTree) (lines : List (List ℕ)) (calls : List Call) : Type 0 where
  pub count : length lines ≡ length calls
  pub each : (i : ℕ) (c : Call) → slice_get calls i ≡ Some c → IsLineCall types lines (i + 1) c

-- ---- the summary

-- the line ended with a value
abbrev pub line_valued : Settled → Bool
line_valued what = (kind_of what).valued

-- the line ended with a fault
abbrev pub is_faulted : Settled → Bool
is_faulted what = (kind_of what).faulted

-- the line was aborted
abbrev pub line_aborted : Settled → Bool
line_aborted what = (kind_of what).aborted

-- how many lines ended so
abbrev pub how_many_lines : (Settled → Bool) → List Entry → ℕ
how_many_lines is entries = count_by (λ e. is e.what) entries

-- an account's balance
abbrev pub balance_in : List Value → ℤ
balance_in (Int n ∷ values) = n
balance_in _ = pos 0

-- the balances of so many accounts, from account 0 on
abbrev pub total_of : States → ℕ → ℤ
total_of states zero = pos 0
total_of states (suc n) = total_of states n +ℤ balance_in (states (account n))

-- the one line that a load prints: how many lines were aborted, ended with a value, ended with a fault, and were
-- asked, and the balances of the 64 accounts by the order
abbrev pub summary_text : Observed → Course → List ℕ
summary_text r c =
    let total = value_data (Int (total_of (standing_of (order c)).states 64)) in
    let asked = counted (codes "requests") (length (lines r)) (member (codes "total") total no_members) in
    let faulted = counted (codes "faulted") (how_many_lines is_faulted c.entries) asked in
    let committed = counted (codes "committed") (how_many_lines line_valued c.entries) faulted in
    line_of (object (counted (codes "aborted") (how_many_lines line_aborted c.entries) committed))

-- ---- the promise

-- How a load ends: it reads no input, and all its lines may begin; a fault is shown by its count; it is done, or fails to write its summary, only where
-- each line has its entry and no batch is in doubt; and where no count rises, and none stands at its last value, it goes
-- through, at width 1 without nested units with no abort, and asks for so many syncs. However it ends it asks for no more than
-- so many.
pub record HasLoaded (p : Program) (r : Observed) (c : Course) : Type 0 where
  pub unread : r.new.input ≡ r.old.input
  pub carried : ending.IsLoadCarried r.ending
  pub allowed : c.allowed ≡ length (lines r)
  pub risen : ending.HasRisen r.ending r.faults_before r.faults_after
  pub done : (r.ending ≡ ending.Done) ⊎ (r.ending ≡ ending.WriteFault) → IsAnswered c
  pub undoubted : r.ending ≡ ending.WriteFault → RunHasDoubt (core_run p c) → ⊥
  pub complete : NoneRose r.faults_before r.faults_after → GoesThrough r c
  pub alone : r.manner.threaded ≡ false → r.manner.width ≡ 1 → HasNoChild p c → (e : Entry) → Member e c.entries → IsNoLock e.what
  pub syncs : NoneRose r.faults_before r.faults_after → r.ending ≡ ending.Done → r.new.syncs ≡ r.old.syncs + syncs_of (seen_at_entry r) (core_run p c)
  pub most : r.new.syncs ≤ r.old.syncs + most_syncs_of (seen_at_entry r) (core_run p c)

-- A load keeps the clauses of a run but those that speak of written replies: it asks for its calls, its entries are
-- those that the core settles, and it prints the summary alone: nothing unless it is done or the output failed, and
-- nothing before each image has the whole order.
pub record KeepsLoad (p : Program) (n seed : ℕ) (r : Observed) (c : Course) : Type 0 where
  pub asked : AskFor p.types (lines r) (load_calls n seed)
  pub ordered : IsOrdered p r c
  pub crashes : SurvivesCrashes r c
  pub sound : IsSoundFolder r.old → StaySound r c
  pub traced : ComeOfEvents p r c
  pub exit : IsExit p r c
  pub settled : c.entries ≡ (core_end p c).manager.settled
  pub explained : IsExplained p r c
  pub output : Prints (summary_text r c) r
  pub lasting : (m : Moment) (image : Image) → Member m (moments r c) → IsImage m.disk image → m.output ≢ r.old.output →
      IsLog c.live image (order c)
  pub silent : r.ending ≢ ending.Done → r.ending ≢ ending.WriteFault → r.new.output ≡ r.old.output
  pub ended : HasLoaded p r c

-- ---- the silo that it makes

-- the text of the bank program
abbrev pub bank_text : List ℕ
bank_text = codes "type account {\n  field balance = 0;\n  method deposit(n) createorjoin update { set balance = balance + n; return balance; }\n  method withdraw(n) createorjoin update {\n    if balance < n { fail \"funds\"; }\n    set balance = balance - n;\n    return balance;\n  }\n  method read() createorjoin read { return balance; }\n}\ntype atm {\n  method transfer(a, b, n) create plain {\n    call account/a.withdraw(n);\n    call account/b.deposit(n);\n    return n;\n  }\n}\ntype probe {\n  field total = 0;\n  method spin(n) create plain { let i = 0; while i < n { i = i + 1; } return i; }\n  method needs() join plain { return 1; }\n  method lone() notallowed plain { return 1; }\n  method calls_lone() create plain { let x = call probe/0.lone(); return x; }\n  method inner() create update { set total = total + 100; return total; }\n  method outer() create update {\n    set total = total + 1;\n    attempt r = call probe/key.inner() { return r; } else { set total = total + 10; }\n    return total;\n  }\n  method aside(a, n) suppress plain { call account/a.deposit(n); return 0; }\n  method split(a, n) create plain { call probe/0.aside(a, n); fail \"after\"; }\n}\n"

-- A load may end so without having made a silo: where there was no memory or the folder is a silo, which is then
-- untouched; or where a call on one of the files that making a silo calls failed.
abbrev pub IsUnmadeBy : ending.Ending → Observed → Type 0
IsUnmadeBy ending.Memory r = IsUntouched r.old r.new
IsUnmadeBy (ending.DiskFault file) r = IsMadeFile file × StaysSilo r file
IsUnmadeBy ending.AlreadyASilo r = WasSilo r × IsUntouched r.old r.new × ManagersLast r
IsUnmadeBy _ r = ⊥

-- The load made no silo: it read no input and emitted nothing, and how far it came is said as of `init`. Where a call failed it
-- ended for that call, and for no other.
pub record IsUnmade (r : Observed) : Type 0 where
  pub beside : StaysBeside r.old r.new
  pub makes : ShowsSilos IsMagic r.old.disk → CameThisFar IsMagic bank_text r.old r.new
  pub shows : ShowsSilos IsMagic r.old.disk → ShowsSilos IsMagic r.new.disk
  pub ends_as : IsUnmadeBy r.ending r
  pub failed : ending.HasFailedAs r.ending r.faults_before r.faults_after

-- The load made a silo of the bank program with an empty log, where there was none: the host was then so. Making one asks for
-- four syncs, for one more where the header of a file with bytes is closed first, and for one where slot 1's manager file has bytes.
pub record HasMade (r : Observed) (made : World) : Type 0 where
  pub absent : WasSilo r → ⊥
  pub beside : StaysBeside r.old made
  pub makes : ShowsSilos IsMagic r.old.disk → FromFirstSync (IsNewAt IsMagic bank_text) r.old made
  pub shows : ShowsSilos IsMagic r.old.disk → ShowsSilos IsMagic made.disk
  pub stays : (file : FileId) → MayLeave (made.disk file) (made.disk file).seen
  pub new : AreNewSilos bank_text r made
  pub syncs : (r.old.syncs + 4 ≤ made.syncs) × (made.syncs ≤ r.old.syncs + 6)

-- what is left of a load from where its silo is made
abbrev pub from_there : Observed → World → Observed
from_there r made = record r { old = made }

-- It made one. It doesn't end for its words, and a fault is shown by its count; and where no short manager file was a silo's, from then
-- on it didn't open it, or took a course that keeps all this of the bank program.
pub record LoadsFrom (n seed : ℕ) (r : Observed) : Type 0 where
  pub made : World
  pub has : HasMade r made
  pub good : r.ending ≢ ending.BadUse
  pub risen : ending.HasRisen r.ending r.faults_before r.faults_after
  pub carried : ShowsSilos IsMagic r.old.disk → IsUnopened (from_there r made) ⊎ ((c : Course) × ((program_in_force c).text ≡ bank_text) × KeepsLoad (program_in_force c) n seed (from_there r made) c)

-- What `load` promises, carried in the manner of its words, without windows: it makes no silo, or makes one and carries its lines in it.
pub record Loads (n seed : ℕ) (m : Manner) (r : Observed) : Type 0 where
  pub manner : r.manner ≡ m
  pub windowed : r.windowed ≡ false
  pub answers : IsUnmade r ⊎ LoadsFrom n seed r
