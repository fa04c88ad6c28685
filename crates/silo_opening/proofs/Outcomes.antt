-- What a call of `create` comes to: a silo, and how far it came.
use Rattle.std.proofs.Common.{◌≡◌, ◌⊎◌, inl, inr, ℕ, ◌≤◌, List, length, take, slice_index, sym, ◌∙◌, ap, subst, arith, length-take, get_or-take}
use Rattle.host_trait.proofs.Runs.{settled_image}
use Rattle.host_trait.specs.World.{World, Moment, Image, Disk, IsImage, Passes, moment_of}
use Rattle.field_codec.specs.declared.formats.Format.TheVariants.{Two}
use Rattle.silo_spec.specs.Silos.{manager, program_file, HasProgram, IsNewSilo, new_header, IsMagic}
use Rattle.silo_spec.proofs.Magics.{silo_of_format}
use Rattle.silo_spec.specs.Moments.{IsUntouched}
use Rattle.silo_spec.specs.Slots.{IsLive}
use Rattle.silo_spec.specs.Creation.{IsMade, IsNewAt, FromFirstSync, CameThisFar}
use Rattle.silo_opening.specs.Steps.{LacksSilo, HasNoSilo}
use Rattle.silo_opening.proofs.GateClosing.{first_then, first_weaker}
use Rattle.silo_opening.proofs.FolderFilling.{new_silo, no_silo_at}

module _ (text : List ℕ) (disk : Disk) (made : IsMade text disk) (image : Image) (is : IsImage disk image) where
  log_is : image manager ≡ (disk manager).seen
  log_is = settled_image disk manager (disk manager).seen (image manager) made.log_lasts (is manager)

  header_is : new_header ≡ take 16 (image manager)
  header_is = sym (ap (λ (l : List ℕ). take 16 l) log_is ∙ made.header)

  long : 16 ≤ length (image manager)
  long = omega (arith, ap length header_is, length-take 16 (image manager))

  closed : slice_index (image manager) 15 ≡ 0
  closed = sym (get_or-take 16 (image manager) 15 0 (omega arith)) ∙ ap (λ (l : List ℕ). slice_index l 15) (sym header_is)

  text_is : HasProgram text (image program_file)
  text_is = subst (λ (l : List ℕ). HasProgram text l) (sym (settled_image disk program_file (disk program_file).seen (image program_file) made.program_lasts (is program_file))) made.program

  -- each image of what was made is a new silo
  pub made_silo : IsNewSilo text image
  made_silo = new_silo text image long (sym header_is) text_is closed

-- and where slot 1's manager file is a silo's in none of them, slot 0 is live in each
pub made_live : (text : List ℕ) (disk : Disk) → IsMade text disk → (m : Moment) → m.disk ≡ disk → LacksSilo IsMagic 1 m → (image : Image) → IsImage disk image → IsLive IsMagic 0 image
made_live text disk made m same lacks image is = record {
  slot = omega arith;
  silo = silo_of_format Two (image manager) (made_silo text disk made image is).silo;
  over = λ other. absurd (lacks image (subst (λ (d : Disk). IsImage d image) (sym same) is) other);
}

-- the first two steps came so far
pub so_far : (text : List ℕ) (old new : World) → IsUntouched old new ⊎ FromFirstSync (HasNoSilo IsMagic) old new → CameThisFar IsMagic text old new
so_far text old new (inl untouched) = inl untouched
so_far text old new (inr first) = inr (first_weaker (HasNoSilo IsMagic) (IsNewAt IsMagic text) old new (no_silo_at text) first)

-- and the later ones behind them
pub came_on : (text : List ℕ) (old mid new : World) → FromFirstSync (HasNoSilo IsMagic) old mid → Passes (IsNewAt IsMagic text) mid.past new.past → IsNewAt IsMagic text (moment_of new) → CameThisFar IsMagic text old new
came_on text old mid new first moments now =
    inr (first_then (IsNewAt IsMagic text) old mid new (first_weaker (HasNoSilo IsMagic) (IsNewAt IsMagic text) old mid (no_silo_at text) first) moments now)
