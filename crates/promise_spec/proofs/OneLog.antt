-- An image has at most one log: what is read of its files.
use Rattle.std.proofs.Common.{◌≡◌, ℕ, take, drop, Result, Ok, sym, ap, subst, ◌∙◌}
use Rattle.host_trait.specs.World.{Image}
use Rattle.host_trait.specs.declared.channels.FileId.TheVariants.{Manager, Program as ProgramFile}
use Rattle.field_codec.specs.declared.formats.Format.{Format}
use Rattle.promise_spec.specs.Programs.{Program}
use Rattle.promise_spec.specs.Entries.{Log}
use Rattle.silo_spec.proofs.Magics.{format_is_one}
use Rattle.promise_spec.specs.Logs.{IsLogIn, IsLogOf}
use Rattle.promise_spec.specs.Openings.{LogRead, log_in_file, log_of}
use Rattle.promise_spec.proofs.Openings.{one_program}
use Rattle.promise_spec.proofs.ReadLogs.{IsReadIn, read_in}
use Rattle.promise_spec.proofs.Slots.{one_slot}

-- one answer is read
read_same : (a b : LogRead) (r : Result LogRead ℕ) → r ≡ Ok a → r ≡ Ok b → a ≡ b
read_same a b r e f = let is : Ok a ≡ Ok b = sym e ∙ f in cc

-- in one format
one_in_format : (format : Format) (live : ℕ) (image : Image) (a b : Log) → IsLogIn format live image a → IsLogIn format live image b → a ≡ b
one_in_format format live image a b x y =
    let program : x.stands.program ≡ y.stands.program =
    one_program (image (ProgramFile live)) x.stands.program y.stands.program x.stands.checked y.stands.checked x.stands.text y.stands.text in
    let one : IsReadIn format live y.stands.program image a = subst (λ (p : Program). IsReadIn format live p image a) program (read_in format live image a x) in
    let other : IsReadIn format live y.stands.program image b = read_in format live image b y in
    let same : one.l ≡ other.l = read_same one.l other.l (log_in_file format y.stands.program (image (Manager live))) one.read other.read in
    sym one.is ∙ ap (log_of format live y.stands.program image) same ∙ other.is

-- a slot's files are of one format
pub format_in : (f g : Format) (live : ℕ) (image : Image) (a b : Log) → IsLogIn f live image a → IsLogIn g live image b → f ≡ g
format_in f g live image a b x y = format_is_one f g (take 8 (drop 1 (image (Manager live)))) x.stands.silo.named y.stands.silo.named

-- they have one log
pub one_in : (f g : Format) (live : ℕ) (image : Image) (a b : Log) → IsLogIn f live image a → IsLogIn g live image b → a ≡ b
one_in f g live image a b x y =
    one_in_format g live image a b (subst (λ (format : Format). IsLogIn format live image a) (format_in f g live image a b x y) x) y

-- An image has one log, whichever slots are said to be live, and in whichever formats.
pub one_log : (f g : Format) (one other : ℕ) (image : Image) (a b : Log) → IsLogOf f one image a → IsLogOf g other image b → a ≡ b
one_log f g one other image a b x y =
    one_in f g other image a b (subst (λ (live : ℕ). IsLogIn f live image a) (one_slot one other image x.is_live y.is_live) x.is) y.is

-- an image has one format
pub image_format : (f g : Format) (one other : ℕ) (image : Image) (a b : Log) → IsLogOf f one image a → IsLogOf g other image b → f ≡ g
image_format f g one other image a b x y =
    format_in f g other image a b (subst (λ (live : ℕ). IsLogIn f live image a) (one_slot one other image x.is_live y.is_live) x.is) y.is
