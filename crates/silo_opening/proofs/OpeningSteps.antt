-- What was read, as an opened silo.
use Rattle.std.proofs.Common.{◌≡◌, ℕ, true, Some, None, List, length, Ok, refl, sym, ◌∙◌, ap}
use Rattle.base_types.specs.Stores.{end_in}
use Rattle.base_types.specs.declared.shapes.Shape.{Shape}
use Rattle.host_trait.specs.declared.channels.FileId.TheVariants.{Manager, Program as ProgramFile, Grain}
use Rattle.host_trait.specs.World.{Image}
use Rattle.field_codec.specs.declared.formats.Format.{Format}
use Rattle.log_reading.specs.declared.contents.Contents.{Contents}
use Rattle.log_reading.specs.Blocks.{program_after, shapes_read}
use Rattle.log_reading.specs.Versions.{named_in, named_by_grain, first_missing}
use Rattle.log_reading.specs.Sums.{placed_after}
use Rattle.log_reading.specs.Contents.{HasContents}
use Rattle.silo_spec.specs.Slots.{generation}
use Rattle.script_tree.specs.Programs.{ProgramTree, program_tree}
use Rattle.program_file.specs.Succession.{newest_program, shapes_in_turn}
use Rattle.promise_spec.specs.Programs.{Program}
use Rattle.promise_spec.specs.Entries.{Log}
use Rattle.promise_spec.specs.Openings.{is_silo, has_format, program_in_file, log_of, live_in}
use Rattle.silo_opening.specs.declared.opened_silo.Opened.{Opened}
use Rattle.silo_opening.specs.OpenedSilo.{program_in, programs_of, shapes_of, IsOpenedIn}
use Rattle.silo_opening.proofs.LogStates.{count_is, next_is, program_is, newest_is}
use Rattle.silo_opening.proofs.WholeReadings.{reads_log}
use Rattle.silo_opening.proofs.FileEnds.{ends_lie, end_lies}
use Rattle.silo_opening.proofs.Gates.{closed_at}

-- what an opened silo has of the contents
abbrev pub contents_of : Opened → Contents
contents_of o = record { programs = o.programs; text = o.text; count = o.count; next_unit = o.next_unit; session = o.session; gate_at = o.gate_at; places = o.places; ends = o.ends }

-- what was read, as an opened silo
pub is_opened : (format : Format) (image : Image) (o : Opened) (first : Program) → live_in image ≡ Some o.slot → generation (image (Manager o.slot)) ≡ o.generation → is_silo (image (Manager o.slot)) ≡ true
    → has_format format (image (Manager o.slot)) ≡ true
    → program_in_file (image (ProgramFile o.slot)) ≡ Ok first → newest_program (programs_of o) ≡ program_tree o.checked → HasContents o.slot format first image (contents_of o) → IsOpenedIn format image o
is_opened format image o first found generation_is silo named program newest h =
    let slot : ℕ = o.slot in
    let log : Log = log_of format slot first image h.log in
    let shapes : List Shape = shapes_read first h.log in
    let shapes_are : shapes_of o ≡ shapes = ap shapes_in_turn h.programs in
    let types : (program_after first h.log.entries).types ≡ program_tree o.checked = sym (newest_is first h.log.entries) ∙ sym (ap newest_program h.programs) ∙ newest in
    let in_force : program_after first h.log.entries ≡ program_in o = (λ i. record { text = sym h.text i; types = types i }) in
    record {
      log = log;
      reads = reads_log format image slot found named first program h.log h.read h.whole;
      generation_is = generation_is;
      program = program_is format slot image log.base first h.log.entries refl ∙ in_force;
      count = h.count ∙ sym (count_is format slot image log.base first h.log.entries);
      next = h.next ∙ sym (next_is format slot image log.base first h.log.entries);
      first = first;
      first_is = program;
      read = h.log;
      read_as = h.read;
      session = h.session;
      programs = h.programs;
      log_is = refl;
      whole = ap (λ (ss : List Shape). first_missing slot format ss image (named_by_grain (named_in h.log))) shapes_are ∙ h.whole;
      places = λ grain. h.places grain ∙ sym (ap (λ (ts : List ProgramTree). placed_after slot format ts image None (named_by_grain (named_in h.log)) grain) h.programs);
      ends = h.ends;
      within = λ grain end is. end_lies (length (image (Grain slot grain))) end _ (end_in o.ends grain) (h.ends grain) (ends_lie format slot shapes image (named_by_grain (named_in h.log)) h.whole grain None tt) is;
      gate = h.gate;
      closed = closed_at (image (Manager slot)) o.gate_at silo h.gate h.closed;
    }
