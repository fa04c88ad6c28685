-- What a load begins with: a silo of the bank program with an empty log.
use Rattle.std.proofs.Common.{◌≡◌, None, Ok, sym, ap, ◌∙◌, subst, lit≤, unwrap_or}
use Rattle.base_types.specs.Stores.{state_in}
use Rattle.base_types.specs.Places.{placed_in}
use Rattle.base_types.specs.declared.calls.GrainId.{GrainId}
use Rattle.host_trait.specs.declared.channels.FileId.TheVariants.{Manager}
use Rattle.host_trait.specs.World.{World, Image}
use Rattle.field_codec.specs.declared.formats.Format.TheVariants.{Two}
use Rattle.log_reading.specs.Steps.{seen_in}
use Rattle.log_reading.specs.Sums.{placed_after}
use Rattle.program_file.specs.Programs.{program_in}
use Rattle.script_tree.specs.Programs.{ProgramTree, program_tree}
use Rattle.silo_spec.specs.Silos.{IsMagic, IsNewSilo}
use Rattle.silo_spec.specs.Slots.{IsLive}
use Rattle.promise_spec.specs.Programs.{Program, IsChecked, shape_in}
use Rattle.promise_spec.specs.Entries.{Log, initial_states, standing_of, new_log}
use Rattle.promise_spec.specs.Openings.{Reads, opened_as, log_in_file, log_of, first_missing, named_in, named_by_grain}
use Rattle.promise_spec.specs.Images.{IsWholeFolder}
use Rattle.promise_spec.specs.Loads.{bank_text}
use Rattle.promise_spec.proofs.Openings.{program_checked, log_is_read, reads_is}
use Rattle.promise_spec.proofs.Slots.{one_slot}
use Rattle.promise_spec.proofs.WholeFolders.{whole_folder}
use Rattle.promise_laws.proofs.SoundFolders.{fresh, new_folder}
use Rattle.promise_laws.specs.Closings.{ReadsMayStay}
use Rattle.command_rules.specs.RunsBehindOpening.{program_of}
use Rattle.script_tree.specs.declared.programs.Program.{Program as Tree}
use Rattle.silo_opening.specs.OpenedSilo.{IsOpenedFrom}
use Rattle.silo_opening.specs.declared.opened_silo.Opened.{Opened}
use Rattle.silo_top.specs.LoadSteps.{IsNewBank}
use Rattle.silo_top.specs.RunBehindOpening.{IsBehindOpening}

-- the bank program with these types
abbrev pub bank_of : ProgramTree → Program
bank_of types = record { text = bank_text; types = types }

module _ (types : ProgramTree) (reads : program_in bank_text ≡ Ok types) where
  pub bank_checked : IsChecked (bank_of types)
  bank_checked = program_checked bank_text types (lit≤ tt) reads

  -- a new silo of it reads as it, with no record
  pub reads_new : (seen : Image) → IsNewSilo bank_text seen → IsLive IsMagic 0 seen → opened_as seen ≡ Reads 0 (new_log (bank_of types))
  reads_new seen new live = log_is_read Two seen 0 (new_log (bank_of types)) (fresh (bank_of types) seen bank_checked new live)

  pub bank_whole : (w : World) → IsNewBank w → IsWholeFolder w
  bank_whole w new = whole_folder w (new_folder (bank_of types) w bank_checked (λ image left slot live. (one_slot slot 0 image live (new.live image left), new.each image left)) new.shows)

  -- where the folder reads as it, what was opened is it
  pub seen_same : (x : Opened) (w : World) → IsNewSilo bank_text (seen_in w.disk) → IsLive IsMagic 0 (seen_in w.disk) → (is : IsOpenedFrom (seen_in w.disk) x) → (program_of is ≡ bank_of types) × (is.log ≡ new_log (bank_of types))
  seen_same x w new live is =
      let same = reads_is x.slot 0 is.log (new_log (bank_of types)) (sym is.reads ∙ reads_new (seen_in w.disk) new live) in
      (sym is.program ∙ ap (λ (l : Log). (standing_of l).program) same.1, same.1)

  pub opened_same : (x : Opened) (w : World) → IsNewBank w → ReadsMayStay w → (is : IsOpenedFrom (seen_in w.disk) x) → (program_of is ≡ bank_of types) × (is.log ≡ new_log (bank_of types))
  opened_same x w new stay is = seen_same x w (new.each (seen_in w.disk) stay) (new.live (seen_in w.disk) stay) is

-- ---- with the program that was accepted

-- an opened silo, with another copy of its program
abbrev pub with_checked : Opened → Tree → Opened
with_checked x bank = record { slot = x.slot; generation = x.generation; text = x.text; checked = bank; programs = x.programs; count = x.count; places = x.places; ends = x.ends; next_unit = x.next_unit; session = x.session; gate_at = x.gate_at }

pub same_opened : (x : Opened) (bank : Tree) (seen : Image) → program_tree x.checked ≡ program_tree bank → IsOpenedFrom seen x → IsOpenedFrom seen (with_checked x bank)
same_opened x bank seen same is = record {
  log = is.log;
  reads = is.reads;
  generation_is = is.generation_is;
  program = is.program ∙ there;
  count = is.count;
  next = is.next;
  first = is.first;
  first_is = is.first_is;
  read = is.read;
  read_as = is.read_as;
  session = is.session;
  programs = is.programs;
  log_is = is.log_is;
  whole = is.whole;
  places = is.places;
  ends = is.ends;
  within = is.within;
  gate = is.gate;
  closed = is.closed;
}
  where
    there : program_of is ≡ record { text = x.text; types = program_tree bank }
    there = ap (λ (t : ProgramTree). record { text = x.text; types = t }) same

-- where the folder reads as it, it is the silo of that program
pub same_seen : (x : Opened) (bank : Tree) (w : World) → program_in bank_text ≡ Ok (program_tree bank) → IsNewSilo bank_text (seen_in w.disk) → IsLive IsMagic 0 (seen_in w.disk) → IsOpenedFrom (seen_in w.disk) x
    → IsOpenedFrom (seen_in w.disk) (with_checked x bank)
same_seen x bank w reads new live is = same_opened x bank (seen_in w.disk) (ap (λ (p : Program). p.types) (seen_same (program_tree bank) reads x w new live is).0) is

pub same_behind : (x : Opened) (bank : Tree) (old mid : World) → program_in bank_text ≡ Ok (program_tree bank) → IsNewBank old → ReadsMayStay old → IsBehindOpening old mid x → IsBehindOpening old mid (with_checked x bank)
same_behind x bank old mid reads new stay is = record {
  opened = same_opened x bank (seen_in old.disk) (ap (λ (p : Program). p.types) (opened_same (program_tree bank) reads x old new stay is.opened).0) is.opened;
  left = is.left;
  settled = is.settled;
  count = is.count;
  run = is.run;
  stays = is.stays;
}
