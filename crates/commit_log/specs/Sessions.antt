-- A body of a log of a format: its session, where the format spells one, and what it says.
use Rattle.std.specs.Prelude.{◌≡◌, ℕ, List, ◌++◌, Result}
use Rattle.base_types.specs.declared.shapes.Shape.{Shape}
use Rattle.field_codec.specs.declared.faults.CodecFault.{CodecFault}
use Rattle.field_codec.specs.declared.formats.Format.{Format}
use Rattle.field_codec.specs.declared.units.Numbers.{Numbers}
use Rattle.field_codec.specs.Spelling.{spelling_of_session}
use Rattle.field_codec.specs.Units.{SessionFits}
use Rattle.field_codec.specs.Readers.{Reader, whole_text, whole, field}
use Rattle.field_codec.specs.Fields.{session_at}
use Rattle.commit_log.specs.declared.contents.Body.{Body}
use Rattle.commit_log.specs.Contents.{spelling_of_content, IsContentIn, content_in}

-- the session, where the format spells one, and what the body says
abbrev pub spelling_with_session : Format → ℕ → Body → List ℕ
spelling_with_session format session content = spelling_of_session format session ++ spelling_of_content content

-- The bytes are the body of this session and content, and nothing follows them. The session isn't below the one before.
pub record IsSessionBody (format : Format) (numbers : Numbers) (shape : Shape) (last session : ℕ) (content : Body) (body : List ℕ) : Type 0 where
  pub session_fits : SessionFits format numbers last session
  pub content_fits : IsContentIn format numbers shape content
  pub spelled : body ≡ spelling_with_session format session content

-- ---- reading

-- a body's session, behind the one before, and what the body says
unfoldable pub front_in : Format → Numbers → Shape → ℕ → Reader (ℕ × Body)
front_in format numbers shape last = field (session_at format numbers last) λ session place. field (content_in format numbers shape) λ content here. whole (session, content)

-- the session of a whole body, and what the body says
abbrev pub body_with_session : Format → Numbers → Shape → ℕ → List ℕ → Result (ℕ × Body) CodecFault
body_with_session format numbers shape last body = whole_text (front_in format numbers shape last) body
