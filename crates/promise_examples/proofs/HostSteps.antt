-- The steps of a host that holds the accounts' silo: each leads from what is held to what is held after it.
use Rattle.std.proofs.Common.{◌≡◌, ◌≢◌, inl, inr, ℕ, zero, suc, ◌+◌, ◌≤◌, Bool, true, false, if◌then◌else◌, List, [], ◌∷◌, ◌++◌, length, take, drop, refl, sym, ap, subst, arith}
use Rattle.std.specs.Prelude.{◌==◌}
use Rattle.std.proofs.lemmas.Bool.{and_parts, eqb-true}
use Rattle.std.proofs.lemmas.List.{append-nil}
use Rattle.base_types.specs.declared.calls.GrainId.{GrainId}
use Rattle.host_trait.specs.declared.channels.Channel.{Channel}
use Rattle.host_trait.specs.declared.channels.Channel.TheVariants.{File}
use Rattle.host_trait.specs.declared.channels.FileId.{FileId}
use Rattle.host_trait.specs.declared.channels.FileId.TheVariants.{Manager, Program as ProgramFile, Grain}
use Rattle.host_trait.specs.Disk.{FileState, Tears, Wrote, Overwrote, settled}
use Rattle.host_trait.specs.Faults.{FailedOn}
use Rattle.host_trait.specs.World.{Disk, Moment}
use Rattle.host_trait.proofs.Crashes.{Tears-overlaid}
use Rattle.cell_model.specs.Units.{same_grain}
use Rattle.silo_spec.specs.Silos.{manager}
use Rattle.promise_examples.specs.Examples.{account_1}
use Rattle.promise_examples.specs.HostCalls.{HostState, IsStep, Pull, Emit, Write, FailedWrite, FailedRead, Sync, FailedSync}
use Rattle.promise_examples.specs.WrittenRun.{disk_of, moment}

-- ---- the files that a call leaves alone

pub account_is : (g : GrainId) → same_grain g account_1 ≡ true → g ≡ account_1
account_is g same =
    let parts = and_parts (g.kind == 0) (g.key == 1) same in
    let kind : g.kind ≡ 0 = eqb-true g.kind 0 parts.0 in
    let key : g.key ≡ 1 = eqb-true g.key 1 parts.1 in
    λ i. record { kind = kind i; key = key i }

pub account_same : (g : GrainId) → same_grain account_1 g ≡ true → g ≡ account_1
account_same g same =
    let parts = and_parts (0 == g.kind) (1 == g.key) same in
    let kind : 0 ≡ g.kind = eqb-true 0 g.kind parts.0 in
    let key : 1 ≡ g.key = eqb-true 1 g.key parts.1 in
    λ i. record { kind = sym kind i; key = sym key i }

by_name : (grain later : FileState) (g : GrainId) (b : Bool) → same_grain g account_1 ≡ b → Grain 0 g ≢ Grain 0 account_1 → (if b then later else settled []) ≡ (if b then grain else settled [])
by_name grain later g true same other = absurd (other (ap (Grain 0) (account_is g same)))
by_name grain later g false same other = refl

beside_grain : (log grain later : FileState) (f : FileId) → f ≢ Grain 0 account_1 → disk_of log later f ≡ disk_of log grain f
beside_grain log grain later (ProgramFile zero) other = refl
beside_grain log grain later (ProgramFile (suc slot)) other = refl
beside_grain log grain later (Manager zero) other = refl
beside_grain log grain later (Manager (suc slot)) other = refl
beside_grain log grain later (Grain zero g) other = by_name grain later g (same_grain g account_1) refl other
beside_grain log grain later (Grain (suc slot) g) other = refl

beside_log : (log later grain : FileState) (f : FileId) → f ≢ manager → disk_of later grain f ≡ disk_of log grain f
beside_log log later grain (ProgramFile zero) other = refl
beside_log log later grain (ProgramFile (suc slot)) other = refl
beside_log log later grain (Manager zero) other = absurd (other refl)
beside_log log later grain (Manager (suc slot)) other = refl
beside_log log later grain (Grain zero g) other = refl
beside_log log later grain (Grain (suc slot) g) other = refl

-- ---- the steps

-- what is held, after these moments
abbrev pub held : List ℕ → List ℕ → Disk → ℕ → List Moment → (Channel → ℕ) → HostState
held input output disk syncs past faults = record {
  world = record { input = input; output = output; disk = disk; syncs = syncs; past = past };
  faults = faults;
}

module _ (output : List ℕ) (disk : Disk) (syncs : ℕ) (past : List Moment) (faults : Channel → ℕ) where
  -- the whole input comes
  pub pulled : (input : List ℕ) → (length input ≡ 0 → ⊥) → IsStep (Pull (length input) input) (held input output disk syncs past faults) (held (drop (length input) input) output disk syncs past faults)
  pulled input some = record {
    says = record {
      bytes = refl;
      count = omega arith;
      end = λ none. absurd (some none);
      input = refl;
      output = refl;
      disk = refl;
      syncs = refl;
      past = inr (refl, refl);
    };
    counts = λ channel. refl;
  }

  -- nothing comes at its end
  pub ended : (into : List ℕ) → IsStep (Pull 0 into) (held [] output disk syncs past faults) (held [] output disk syncs past faults)
  ended into = record {
    says = record { bytes = refl; count = omega arith; end = λ none room. refl; input = refl; output = refl; disk = refl; syncs = refl; past = inr (refl, refl) };
    counts = λ channel. refl;
  }

module _ (output : List ℕ) (log grain : FileState) (syncs : ℕ) (past : List Moment) where
  abbrev at_log : FileState → HostState
  at_log later = held [] output (disk_of later grain) syncs (past ++ moment output (disk_of later grain) ∷ []) (λ channel. 0)

  -- a write to the manager file
  pub wrote_log : (later : FileState) (at : ℕ) (bytes : List ℕ) → at ≤ length log.seen → Overwrote at bytes log later → IsStep (Write manager at bytes) (held [] output (disk_of log grain) syncs past (λ channel. 0)) (at_log later)
  wrote_log later at bytes within over = record {
    says = (
      record {
        place = within;
        written = record {
          state = record { pends = inl over.pends; seen = subst (λ (l : List ℕ). Tears at (length bytes) log.seen l) (sym over.seen) (Tears-overlaid at bytes log.seen within) };
          others = beside_log log later grain;
          input = refl;
          output = refl;
          syncs = refl;
          past = inl refl;
        };
      },
      over,
    );
    counts = λ channel. refl;
  }

  -- a write to the file of `account/1`
  pub wrote_grain : (later : FileState) (at : ℕ) (bytes : List ℕ) → at ≤ length grain.seen → Overwrote at bytes grain later
      → IsStep (Write (Grain 0 account_1) at bytes) (held [] output (disk_of log grain) syncs past (λ channel. 0)) (held [] output (disk_of log later) syncs (past ++ moment output (disk_of log later) ∷ []) (λ channel. 0))
  wrote_grain later at bytes within over = record {
    says = (
      record {
        place = within;
        written = record {
          state = record { pends = inl over.pends; seen = subst (λ (l : List ℕ). Tears at (length bytes) grain.seen l) (sym over.seen) (Tears-overlaid at bytes grain.seen within) };
          others = beside_grain log grain later;
          input = refl;
          output = refl;
          syncs = refl;
          past = inl refl;
        };
      },
      over,
    );
    counts = λ channel. refl;
  }

  -- a write there that fails
  pub cut_grain : (later : FileState) (at n : ℕ) (faults : Channel → ℕ) → at ≤ length grain.seen → Wrote at n grain later → FailedOn (File (Grain 0 account_1)) (λ channel. 0) faults
      → IsStep (FailedWrite (Grain 0 account_1) at n) (held [] output (disk_of log grain) syncs past (λ channel. 0)) (held [] output (disk_of log later) syncs (past ++ moment output (disk_of log later) ∷ []) faults)
  cut_grain later at n faults within wrote failed = record {
    says = record {
      place = within;
      written = record { state = wrote; others = beside_grain log grain later; input = refl; output = refl; syncs = refl; past = inl refl };
    };
    counts = failed;
  }

  -- a write there that never began
  pub unbegun_log : (at n : ℕ) (faults : Channel → ℕ) → at ≤ length log.seen → FailedOn (File manager) (λ channel. 0) faults
      → IsStep (FailedWrite manager at n) (held [] output (disk_of log grain) syncs past (λ channel. 0)) (held [] output (disk_of log grain) syncs (past ++ moment output (disk_of log grain) ∷ []) faults)
  unbegun_log at n faults within failed = record {
    says = record {
      place = within;
      written = record {
        state = record { pends = inr refl; seen = record { before = refl; after = refl; no_shorter = omega arith; no_longer = omega arith } };
        others = λ f other. refl;
        input = refl;
        output = refl;
        syncs = refl;
        past = inl refl;
      };
    };
    counts = failed;
  }

  -- a sync of the manager file
  pub synced_log : (input : List ℕ) → IsStep (Sync manager) (held input output (disk_of log grain) syncs past (λ channel. 0)) (held input output (disk_of (settled log.seen) grain) (syncs + 1) (past ++ moment output (disk_of (settled log.seen) grain) ∷ []) (λ channel. 0))
  synced_log input = record {
    says = (
      record { state = refl; others = beside_log log (settled log.seen) grain; input = refl; output = refl; counted = omega arith; once = omega arith; past = inl refl },
      refl,
    );
    counts = λ channel. refl;
  }

  -- a sync of the file of `account/1`
  pub synced_grain : IsStep (Sync (Grain 0 account_1)) (held [] output (disk_of log grain) syncs past (λ channel. 0)) (held [] output (disk_of log (settled grain.seen)) (syncs + 1) (past ++ moment output (disk_of log (settled grain.seen)) ∷ []) (λ channel. 0))
  synced_grain = record {
    says = (
      record { state = refl; others = beside_grain log grain (settled grain.seen); input = refl; output = refl; counted = omega arith; once = omega arith; past = inl refl },
      refl,
    );
    counts = λ channel. refl;
  }

  -- a sync of the manager file that fails
  pub unsynced_log : (faults : Channel → ℕ) → FailedOn (File manager) (λ channel. 0) faults
      → IsStep (FailedSync manager) (held [] output (disk_of log grain) syncs past (λ channel. 0)) (held [] output (disk_of log grain) (syncs + 1) (past ++ moment output (disk_of log grain) ∷ []) faults)
  unsynced_log faults failed = record {
    says = record { state = refl; others = λ f other. refl; input = refl; output = refl; counted = omega arith; once = omega arith; past = inl refl };
    counts = failed;
  }

-- a read of a file fails
pub unread : (output : List ℕ) (disk : Disk) (syncs : ℕ) (past : List Moment) (file : FileId) (faults : Channel → ℕ) → FailedOn (File file) (λ channel. 0) faults
    → IsStep (FailedRead file) (held [] output disk syncs past (λ channel. 0)) (held [] output disk syncs past faults)
unread output disk syncs past file faults failed = record {
  says = record { input = refl; output = refl; disk = refl; syncs = refl; moments = record { more = []; past = sym (append-nil past); each = tt } };
  counts = failed;
}

-- bytes are emitted
pub emitted : (output bytes : List ℕ) (disk : Disk) (syncs : ℕ) (past : List Moment) (faults : Channel → ℕ) → take (length bytes) bytes ≡ bytes
    → IsStep (Emit bytes) (held [] output disk syncs past faults) (held [] (output ++ bytes) disk syncs (past ++ moment (output ++ bytes) disk ∷ []) faults)
emitted output bytes disk syncs past faults all = record {
  says = record {
    count = omega arith;
    input = refl;
    output = ap (λ (l : List ℕ). output ++ l) (sym all);
    disk = refl;
    syncs = refl;
    past = inl refl;
  };
  counts = λ channel. refl;
}
