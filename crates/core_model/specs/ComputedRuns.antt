-- Runs that are computed: what a bank's accounts settle in.
use Rattle.std.specs.Prelude.{◌≡◌, ℕ, ◌+◌, pos, List, [], ◌∷◌, ◌++◌, false, true, Option, Some, None, option_map}
use Rattle.base_types.specs.declared.calls.Value.TheVariants.{Int}
use Rattle.base_types.specs.declared.calls.Outcome.TheVariants as outcome
use Rattle.base_types.specs.declared.calls.Origin.TheVariants.{Line, Child}
use Rattle.base_types.specs.declared.calls.Mode.TheVariants.{Read as Shared, Update as Alone}
use Rattle.base_types.specs.declared.entries.Settled.TheVariants as settled
use Rattle.base_types.specs.declared.entries.BadRequest.TheVariants.{Json}
use Rattle.cell_model.specs.declared.locks.Ask.TheVariants as locks
use Rattle.core_model.specs.declared.events.CoreReply.{CoreReply}
use Rattle.core_model.specs.declared.events.CoreReply.TheVariants as reply
use Rattle.core_model.specs.declared.questions.SettlerWork.{SettlerWork}
use Rattle.core_model.specs.declared.questions.SettlerWork.TheVariants as work
use Rattle.core_model.specs.CoreState.{UnitNo, GrainId, Value, Version, Call, Entry, Settled, Read, Effect, CoreState, nobody}
use Rattle.core_model.specs.Settler.{settler_step, work_in}
use Rattle.core_model.specs.Events.{CoreEvent, Bad, Begin, Grant, Refuse, Finish, EndPlain, EndSnapshot, Release, Take, Vote, Decide, Sealed, NotSealed, Doubt, Learn, Emitted, Halt, Want, Load, step, run, start, reply_to}

-- the bank has one type, the account, with the methods deposit, move and balance
abbrev pub account : ℕ → GrainId
account k = record { kind = 0; key = k }

-- the unit of that number
abbrev pub unit : ℕ → UnitNo
unit n = record { 0 = n }

-- an account with that balance
abbrev pub state : ℕ → List Value
state n = Int (pos n) ∷ []

-- a call that deposits so much
abbrev pub deposit : ℕ → ℕ → Call
deposit k n = record { grain = account k; method = 0; args = state n }

-- a call that looks at the balance
abbrev pub balance : ℕ → Call
balance k = record { grain = account k; method = 2; args = [] }

-- a call that returned that number
abbrev pub done : ℕ → Settled
done n = settled.Done (outcome.Value (Int (pos n)))

-- what a unit reads that a unit has left
abbrev pub found : ℕ → ℕ → ℕ → Read
found k n source = record { grain = account k; state = state n; source = unit source }

-- what unit n, of line n, does that deposits so much and finds what a unit left before
abbrev pub deposit_done : ℕ → ℕ → ℕ → ℕ → ℕ → Effect
deposit_done n k amount before source = record {
  unit = unit n;
  origin = Line n;
  call = deposit k amount;
  answers = [];
  reads = found k before source ∷ [];
  writes = (account k, state (before + amount)) ∷ [];
  result = outcome.Value (Int (pos (before + amount)));
}

-- the unit finishes so
abbrev pub deposited : ℕ → ℕ → ℕ → ℕ → ℕ → CoreEvent
deposited n k amount before source = Finish (unit n) (deposit_done n k amount before source)

-- what unit n, of line n, does that looks at the balance
abbrev pub look_done : ℕ → ℕ → ℕ → ℕ → Effect
look_done n k before source = record {
  unit = unit n;
  origin = Line n;
  call = balance k;
  answers = [];
  reads = found k before source ∷ [];
  writes = [];
  result = outcome.Value (Int (pos before));
}

-- the unit finishes so
abbrev pub looked : ℕ → ℕ → ℕ → ℕ → CoreEvent
looked n k before source = Finish (unit n) (look_done n k before source)

-- the entry of line n, whose unit is unit n
abbrev pub entry : ℕ → Settled → Entry
entry n what = record { line = n; unit = unit n; what = what }

-- a bank whose accounts are empty
abbrev pub bank : CoreState
bank = start 1 1 None (λ g. state 0)

-- what a bank settles
abbrev pub settled_in : List CoreEvent → List Entry
settled_in es = (run bank es).manager.settled

-- the replies to a list of events
abbrev pub replies : CoreState → List CoreEvent → List CoreReply
replies w [] = []
replies w (e ∷ es) = reply_to w e ∷ replies (step w e) es

-- a deposit, and a look at the balance that reads it before it is decided
abbrev pub dirty_read : List CoreEvent
dirty_read =
    Begin (Line 1) (deposit 1 5) false ∷ Begin (Line 2) (balance 1) false ∷
    Grant (unit 1) (account 1) Alone ∷ deposited 1 1 5 0 0 ∷ Release (unit 1) (account 1) ∷
    Grant (unit 2) (account 1) Shared ∷ looked 2 1 5 1 ∷ Release (unit 2) (account 1) ∷ Take ∷ []

-- an older unit waits for a younger one
abbrev pub wait_for_younger : List CoreEvent
wait_for_younger =
    Begin (Line 1) (deposit 1 5) false ∷ Begin (Line 2) (deposit 1 3) false ∷
    Grant (unit 2) (account 1) Alone ∷ Grant (unit 1) (account 1) Alone ∷ Refuse (unit 1) (account 1) Alone ∷
    deposited 2 1 3 0 0 ∷ Release (unit 2) (account 1) ∷
    Grant (unit 1) (account 1) Alone ∷ deposited 1 1 5 3 2 ∷ Release (unit 1) (account 1) ∷
    Take ∷ Vote 1 (account 1) true ∷ Decide 1 ∷ Sealed 1 ∷ []

-- both units of the dirty read commit
abbrev pub both_seal : List CoreEvent
both_seal = dirty_read ++ Vote 1 (account 1) true ∷ Decide 1 ∷ Sealed 1 ∷ []

-- what the settler is shown before each event, and at the end
abbrev pub shown_steps : CoreState → List CoreEvent → List SettlerWork
shown_steps w [] = work_in w (settler_step w) ∷ []
shown_steps w (e ∷ es) = work_in w (settler_step w) ∷ shown_steps (step w e) es

-- the stack of an account, and the plan of the open batch
abbrev pub stack_in : List CoreEvent → ℕ → List Version
stack_in es k = (run bank es).cells.stack (account k)

-- the grains to be voted on by the open batch after these events, if there is one
abbrev pub plan_in : List CoreEvent → Option (List GrainId)
plan_in es = option_map (λ b. b.plan) (run bank es).manager.batch

-- the version that the unit left
abbrev pub version : ℕ → ℕ → Version
version n balance = record { unit = unit n; state = state balance }

-- What these runs come to, by computing them.
pub record RunsAreComputed : Type 0 where
  pub both_commit : settled_in both_seal ≡ entry 1 (done 5) ∷ entry 2 (done 5) ∷ []
  -- the file of the account fails
  pub vote_and_dependent : settled_in (dirty_read ++ Vote 1 (account 1) false ∷ Decide 1 ∷ []) ≡ entry 1 (settled.Vote (account 1)) ∷ entry 2 (settled.Dependency (unit 1)) ∷ []
  -- nobody knows whether the batch is on disk
  pub both_in_doubt : settled_in (dirty_read ++ Vote 1 (account 1) true ∷ Decide 1 ∷ Doubt 1 ∷ Take ∷ []) ≡ entry 1 settled.InDoubt ∷ entry 2 settled.InDoubt ∷ []
  -- one of two files fails
  pub one_of_two : settled_in (Begin (Line 1) (deposit 1 5) false ∷ Begin (Line 2) (deposit 2 4) false ∷
      Grant (unit 1) (account 1) Alone ∷ deposited 1 1 5 0 0 ∷ Release (unit 1) (account 1) ∷
      Grant (unit 2) (account 2) Alone ∷ deposited 2 2 4 0 0 ∷ Release (unit 2) (account 2) ∷
      Take ∷ Vote 1 (account 1) false ∷ Vote 1 (account 2) true ∷ Decide 1 ∷ Sealed 1 ∷ [])
      ≡ entry 1 (settled.Vote (account 1)) ∷ entry 2 (done 4) ∷ []
  -- a younger unit is refused by an older one's lock
  pub younger_dies : settled_in (Begin (Line 1) (deposit 1 5) false ∷ Begin (Line 2) (deposit 1 5) false ∷
      Grant (unit 1) (account 1) Alone ∷ Refuse (unit 2) (account 1) Alone ∷ deposited 1 1 5 0 0 ∷ Release (unit 1) (account 1) ∷
      Take ∷ Vote 1 (account 1) true ∷ Decide 1 ∷ Sealed 1 ∷ [])
      ≡ entry 2 (settled.Lock (unit 1) (account 1)) ∷ entry 1 (done 5) ∷ []
  pub older_waits : settled_in wait_for_younger ≡ entry 2 (done 3) ∷ entry 1 (done 8) ∷ []
  pub older_is_told : replies bank wait_for_younger ≡
      reply.Began (unit 1) ∷ reply.Began (unit 2) ∷
      reply.Granted (state 0) nobody ∷ reply.NotGranted (locks.MustWait (unit 2)) ∷ reply.Unapplied ∷
      reply.Done ∷ reply.Done ∷
      reply.Granted (state 3) (unit 2) ∷ reply.Done ∷ reply.Done ∷
      reply.Taken 1 ∷ reply.Done ∷ reply.Decided 2 ∷ reply.Done ∷ []
  -- a look before a deposit
  pub read_before_write : settled_in (Begin (Line 1) (balance 1) false ∷ Begin (Line 2) (deposit 1 4) false ∷
      Grant (unit 1) (account 1) Shared ∷ looked 1 1 0 0 ∷ Release (unit 1) (account 1) ∷
      Grant (unit 2) (account 1) Alone ∷ deposited 2 1 4 0 0 ∷ Release (unit 2) (account 1) ∷
      Take ∷ Vote 1 (account 1) true ∷ Decide 1 ∷ Sealed 1 ∷ [])
      ≡ entry 1 (done 0) ∷ entry 2 (done 4) ∷ []
  -- the block of the first batch can't be written; a later deposit finds the opening state
  pub failed_block : settled_in (Begin (Line 1) (deposit 1 5) false ∷
      Grant (unit 1) (account 1) Alone ∷ deposited 1 1 5 0 0 ∷ Release (unit 1) (account 1) ∷
      Take ∷ Vote 1 (account 1) true ∷ Decide 1 ∷ NotSealed 1 ∷ Learn (unit 1) (account 1) ∷ Begin (Line 2) (deposit 1 5) false ∷
      Grant (unit 2) (account 1) Alone ∷ deposited 2 1 5 0 0 ∷ Release (unit 2) (account 1) ∷
      Take ∷ Vote 2 (account 1) true ∷ Decide 2 ∷ Sealed 2 ∷ [])
      ≡ entry 1 settled.Disk ∷ entry 2 (done 5) ∷ []
  -- a grant cleans what nobody has learnt yet, and a unit that read it is doomed
  pub doomed_reader : replies bank (Begin (Line 1) (deposit 1 5) false ∷ Begin (Line 2) (balance 1) false ∷ Begin (Line 3) (balance 1) false ∷
      Grant (unit 1) (account 1) Alone ∷ deposited 1 1 5 0 0 ∷ Release (unit 1) (account 1) ∷
      Grant (unit 2) (account 1) Shared ∷ Take ∷ Vote 1 (account 1) false ∷ Decide 1 ∷
      Grant (unit 3) (account 1) Shared ∷ Grant (unit 2) (account 2) Shared ∷ Refuse (unit 2) (account 2) Shared ∷ [])
      ≡ reply.Began (unit 1) ∷ reply.Began (unit 2) ∷ reply.Began (unit 3) ∷
      reply.Granted (state 0) nobody ∷ reply.Done ∷ reply.Done ∷
      reply.Granted (state 5) (unit 1) ∷ reply.Taken 1 ∷ reply.Done ∷ reply.Decided 0 ∷
      reply.Granted (state 0) nobody ∷ reply.Doomed (unit 1) ∷ reply.Done ∷ []
  -- with room for one grain, the other leaves memory and is loaded again
  pub one_in_memory : replies (start 1 1 (Some 1) (λ g. state 0)) (Begin (Line 1) (balance 1) false ∷
      Grant (unit 1) (account 1) Shared ∷ Want (unit 1) (account 1) ∷ Load (account 1) nobody (state 0) ∷
      Grant (unit 1) (account 1) Shared ∷ looked 1 1 0 0 ∷ Release (unit 1) (account 1) ∷
      Begin (Line 2) (balance 2) false ∷ Want (unit 2) (account 2) ∷ Load (account 2) nobody (state 0) ∷
      Begin (Line 3) (balance 1) false ∷ Grant (unit 3) (account 1) Shared ∷ Halt ∷ Grant (unit 2) (account 2) Shared ∷ [])
      ≡ reply.Began (unit 1) ∷
      reply.NotLoaded ∷ reply.Done ∷ reply.Done ∷
      reply.Granted (state 0) nobody ∷ reply.Done ∷ reply.Done ∷
      reply.Began (unit 2) ∷ reply.Done ∷ reply.Done ∷
      reply.Began (unit 3) ∷ reply.NotLoaded ∷ reply.Done ∷ reply.Unapplied ∷ []
  -- a unit that holds a grain asks for a unit of its own there: the child is younger and refused, and the parent is answered
  -- that it aborted
  pub child_refused : settled_in (Begin (Line 1) (deposit 3 1) false ∷ Grant (unit 1) (account 3) Alone ∷
      Begin (Child (unit 1) 0 2) (deposit 3 100) false ∷ Begin (Child (unit 1) 1 2) (deposit 3 100) false ∷
      Refuse (unit 2) (account 3) Alone ∷
      Finish (unit 1) (record {
        unit = unit 1;
        origin = Line 1;
        call = deposit 3 1;
        answers = [];
        reads = found 3 0 0 ∷ [];
        writes = (account 3, state 11) ∷ [];
        result = outcome.Value (Int (pos 11));
      }) ∷
      Finish (unit 1) (record {
        unit = unit 1;
        origin = Line 1;
        call = deposit 3 1;
        answers = outcome.Aborted ∷ [];
        reads = found 3 0 0 ∷ [];
        writes = (account 3, state 11) ∷ [];
        result = outcome.Value (Int (pos 11));
      }) ∷
      Release (unit 1) (account 3) ∷ Take ∷ Vote 1 (account 3) true ∷ Decide 1 ∷ Sealed 1 ∷ [])
      ≡ entry 1 (done 11) ∷ []
  -- a plain run is answered by its child's commit, whose line it isn't; a bad line stands between
  pub plain_parent : settled_in (Begin (Line 1) (balance 9) true ∷ Begin (Child (unit 1) 0 2) (deposit 1 5) false ∷ Bad 2 Json ∷
      Grant (unit 2) (account 1) Alone ∷
      Finish (unit 2) (record {
        unit = unit 2;
        origin = Child (unit 1) 0 2;
        call = deposit 1 5;
        answers = [];
        reads = found 1 0 0 ∷ [];
        writes = (account 1, state 5) ∷ [];
        result = outcome.Value (Int (pos 5));
      }) ∷
      Release (unit 2) (account 1) ∷ Take ∷ Vote 1 (account 1) true ∷ Decide 1 ∷ Sealed 1 ∷
      EndPlain (unit 1) (record {
        unit = unit 1;
        origin = Line 1;
        call = balance 9;
        answers = outcome.Value (Int (pos 5)) ∷ [];
        reads = [];
        writes = [];
        result = outcome.Value (Int (pos 0));
      }) ∷ [])
      ≡ record { line = 2; unit = nobody; what = settled.Bad Json } ∷ entry 1 (done 0) ∷ []
  -- two units share a lock; neither gets the account for itself
  pub shared : replies bank (Begin (Line 1) (balance 1) false ∷ Begin (Line 2) (balance 1) false ∷
      Grant (unit 1) (account 1) Shared ∷ Grant (unit 2) (account 1) Shared ∷ Grant (unit 2) (account 1) Shared ∷
      Grant (unit 1) (account 1) Alone ∷ Grant (unit 2) (account 1) Alone ∷ [])
      ≡ reply.Began (unit 1) ∷ reply.Began (unit 2) ∷
      reply.Granted (state 0) nobody ∷ reply.Granted (state 0) nobody ∷ reply.NotGranted locks.Held ∷
      reply.NotGranted (locks.MustWait (unit 2)) ∷ reply.NotGranted (locks.MustDie (unit 1)) ∷ []
  -- a plain run that reads a snapshot
  pub snapshot_ends : settled_in (Begin (Line 1) (balance 1) true ∷ EndSnapshot (unit 1) 0 (outcome.Value (Int (pos 5))) ∷ []) ≡ entry 1 (done 5) ∷ []
  -- entries are written one by one
  pub entries_written : replies (run bank both_seal) (Emitted ∷ Emitted ∷ Emitted ∷ []) ≡ reply.Done ∷ reply.Done ∷ reply.Unapplied ∷ []
  -- the account's file is the batch's work, once
  pub one_planned : plan_in dirty_read ≡ Some (account 1 ∷ [])
  -- the plan stands in the order of the grains, without the account that a doomed unit wrote
  pub planned_in_order : plan_in (Begin (Line 1) (deposit 3 5) false ∷ Begin (Line 2) (deposit 1 5) false ∷ Begin (Line 3) (deposit 3 5) false ∷
      Grant (unit 1) (account 3) Alone ∷ deposited 1 3 5 0 0 ∷ Release (unit 1) (account 3) ∷
      Grant (unit 2) (account 1) Alone ∷ deposited 2 1 5 0 0 ∷ Release (unit 2) (account 1) ∷
      Grant (unit 3) (account 3) Alone ∷ deposited 3 3 5 5 1 ∷ Release (unit 3) (account 3) ∷ Take ∷ [])
      ≡ Some (account 1 ∷ account 3 ∷ [])
  -- the stack has both versions until it learns that the deposit is committed
  pub not_learnt : stack_in both_seal 1 ≡ version 1 5 ∷ version 0 0 ∷ []
  pub learnt : stack_in (both_seal ++ Learn (unit 1) (account 1) ∷ []) 1 ≡ version 1 5 ∷ []
  -- what the settler is shown, step by step
  pub settler_shown : shown_steps (run bank dirty_read) (Vote 1 (account 1) true ∷ Decide 1 ∷ Sealed 1 ∷ Learn (unit 1) (account 1) ∷ Emitted ∷ Emitted ∷ [])
      ≡ work.Vote 1 (account 1) (version 1 5 ∷ []) ∷ work.Decide 1 ∷ work.Seal 1 (deposit_done 1 1 5 0 0 ∷ look_done 2 1 5 1 ∷ []) ∷
      work.Learn (unit 1) (account 1) ∷ work.Write (entry 1 (done 5)) ∷ work.Write (entry 2 (done 5)) ∷ work.Nothing ∷ []
  -- after a doubt it is shown entries alone, though there is something to learn and to take
  pub shown_in_doubt : shown_steps (run bank dirty_read) (Vote 1 (account 1) true ∷ Decide 1 ∷ Doubt 1 ∷ Emitted ∷ Emitted ∷ [])
      ≡ work.Vote 1 (account 1) (version 1 5 ∷ []) ∷ work.Decide 1 ∷ work.Seal 1 (deposit_done 1 1 5 0 0 ∷ look_done 2 1 5 1 ∷ []) ∷
      work.Write (entry 1 settled.InDoubt) ∷ work.Write (entry 2 settled.InDoubt) ∷ work.Nothing ∷ []
