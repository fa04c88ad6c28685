-- A session and what a body says are read exactly where they are spelled.
use Rattle.std.proofs.Common.{◌≡◌, ℕ, ◌≤◌, List, [], ◌++◌, length, Result, Ok, Err, IfErr, refl, sym, ap, subst, ◌∙◌, append-nil, arith}
use Rattle.std.specs.Int.{w64, to_le_bytes, from_le_bytes}
use Rattle.std.proofs.lemmas.List.{take_at}
use Rattle.base_types.specs.declared.shapes.Shape.{Shape}
use Rattle.field_codec.specs.declared.faults.CodecFault.{CodecFault}
use Rattle.field_codec.specs.declared.faults.CodecFault.TheVariants.{Short, BadTag, NotUtf8, Over, BadOrder, Unknown, Trailing, Memory}
use Rattle.field_codec.specs.declared.formats.Format.{Format}
use Rattle.field_codec.specs.declared.formats.Format.TheVariants.{One, Two}
use Rattle.field_codec.specs.declared.units.Numbers.{Numbers}
use Rattle.field_codec.specs.Spelling.{Stands, spelling_of_session}
use Rattle.field_codec.specs.SpellingsApart.{AreApart}
use Rattle.field_codec.specs.Units.{SessionFits}
use Rattle.field_codec.specs.Readers.{AreBytes}
use Rattle.field_codec.specs.Results.{Faults, GivesRead, place_of}
use Rattle.field_codec.specs.Fields.{session_at, session_of}
use Rattle.field_codec.proofs.Readers.{Reads, Any, then, done, said, apart}
use Rattle.field_codec.proofs.Counts.{wide64}
use Rattle.field_codec.proofs.Things.{session_reads}
use Rattle.field_codec.proofs.Wholes.{whole_takes, whole_again, whole_within}
use Rattle.commit_log.specs.declared.contents.Body.{Body}
use Rattle.commit_log.specs.Contents.{spelling_of_content, IsContentIn, content_in}
use Rattle.commit_log.specs.Sessions.{spelling_with_session, IsSessionBody, front_in, body_with_session}
use Rattle.commit_log.proofs.ContentsRead.{content_reads}

-- a fault's place, where each fault of the reading keeps it
named : {A : Type 0} (e : CodecFault) (read : Result A CodecFault) (n : ℕ) → ((d : CodecFault) → read ≡ Err d → place_of d ≤ n) → Faults e read → place_of e ≤ n
named Memory read n all fault = omega arith
named (Short p) read n all fault = all _ fault
named (BadTag p b) read n all fault = all _ fault
named (NotUtf8 p) read n all fault = all _ fault
named (Over p l) read n all fault = all _ fault
named (BadOrder p) read n all fault = all _ fault
named (Unknown p) read n all fault = all _ fault
named (Trailing p) read n all fault = all _ fault

module _ (f : Format) (numbers : Numbers) (shape : Shape) (last : ℕ) where
  abbrev pub FrontFits : ℕ × Body → Type 0
  FrontFits x = SessionFits f numbers last x.0 × IsContentIn f numbers shape x.1

  abbrev pub front_bytes : ℕ × Body → List ℕ
  front_bytes x = spelling_with_session f x.0 x.1

  pub front_reads : (low : ℕ) → Reads low Any front_bytes FrontFits (front_in f numbers shape last)
  unfolding front_in
  front_reads low =
      said low Any Any (λ (x : ℕ × Body). spelling_of_session f x.0 ++ (spelling_of_content x.1 ++ [])) front_bytes (λ x. SessionFits f numbers last x.0 × (IsContentIn f numbers shape x.1 × Unit {0})) FrontFits (front_in f numbers shape last)
      (λ x p. tt) (λ x p. tt) (λ x p. simp append-nil) (λ x p fits. (fits.0, fits.1.0)) (λ x p fits. (fits.0, (fits.1, tt)))
      (then (λ (x : ℕ × Body). x.0) (spelling_of_session f) (SessionFits f numbers last) (session_at f numbers last) low Any _ _ _ (session_reads numbers last f low) λ s from1.
      then (λ (x : ℕ × Body). x.1) spelling_of_content (IsContentIn f numbers shape) (content_in f numbers shape) from1 _ _ _ _ (content_reads f numbers shape from1) λ b from2.
      done from2 _ (s, b) ((tt, refl), refl) (λ d p i. (p.0.1 i, p.1 i)))

  -- no session and content begins another
  pub fronts_apart : AreApart front_bytes FrontFits
  fronts_apart = apart front_bytes FrontFits (front_in f numbers shape last) (front_reads 0)

  -- ---- whole bodies

  module _ (body : List ℕ) (result : Result (ℕ × Body) CodecFault) (gives : GivesRead result (body_with_session f numbers shape last body)) where
    pub found_body : AreBytes body → (x : ℕ × Body) → result ≡ Ok x → IsSessionBody f numbers shape last x.0 x.1 body
    found_body are x is =
        let read : body_with_session f numbers shape last body ≡ Ok x = subst (λ (r : Result (ℕ × Body) CodecFault). GivesRead r (body_with_session f numbers shape last body)) is gives in
        let t = whole_takes front_bytes FrontFits (front_in f numbers shape last) (front_reads 0) body are x read in
        record { session_fits = t.0.0; content_fits = t.0.1; spelled = t.1 }

    pub only_body : (session : ℕ) (content : Body) → IsSessionBody f numbers shape last session content body → GivesRead result (Ok (session, content))
    only_body session content is =
        let read : body_with_session f numbers shape last body ≡ Ok (session, content) = whole_again front_bytes FrontFits (front_in f numbers shape last) (front_reads 0) body (session, content) (is.session_fits, is.content_fits) is.spelled in
        subst (λ (r : Result (ℕ × Body) CodecFault). GivesRead result r) read gives

    pub within_body : AreBytes body → IfErr result (λ fault. place_of fault ≤ length body)
    within_body are = whole_within front_bytes FrontFits (front_in f numbers shape last) (front_reads 0) body are result gives

  -- ---- and their begins

  module _ (body : List ℕ) (result : Result ((ℕ × Body) × ℕ) CodecFault) (gives : GivesRead result (front_in f numbers shape last body 0)) where
    pub found_front : AreBytes body → (x : (ℕ × Body) × ℕ) → result ≡ Ok x → SessionFits f numbers last x.0.0 × IsContentIn f numbers shape x.0.1 × Stands body 0 (spelling_with_session f x.0.0 x.0.1) x.1
    found_front are x is =
        let read : front_in f numbers shape last body 0 ≡ Ok x = subst (λ (r : Result ((ℕ × Body) × ℕ) CodecFault). GivesRead r (front_in f numbers shape last body 0)) is gives in
        let t = (front_reads 0).takes body 0 x.0 x.1 are (omega arith) read in
        (t.1.0, t.1.1, t.2)

    pub within_front : AreBytes body → IfErr result (λ fault. place_of fault ≤ length body)
    within_front are = by_result result gives where
      by_result : (r : Result ((ℕ × Body) × ℕ) CodecFault) → GivesRead r (front_in f numbers shape last body 0) → IfErr r (λ fault. place_of fault ≤ length body)
      by_result (Ok x) g = tt
      by_result (Err fault) g = named fault (front_in f numbers shape last body 0) (length body) (λ d e. (front_reads 0).falls body 0 d are (omega arith) (omega arith) e) g

-- a body is read
pub body_again : (f : Format) (numbers : Numbers) (shape : Shape) (last session : ℕ) (content : Body) (body : List ℕ) → IsSessionBody f numbers shape last session content body → body_with_session f numbers shape last body ≡ Ok (session, content)
body_again f numbers shape last session content body is =
    whole_again (front_bytes f numbers shape last) (FrontFits f numbers shape last) (front_in f numbers shape last) (front_reads f numbers shape last 0) body (session, content) (is.session_fits, is.content_fits) is.spelled

-- and what is read is one
pub body_taken : (f : Format) (numbers : Numbers) (shape : Shape) (last session : ℕ) (content : Body) (body : List ℕ) → AreBytes body → body_with_session f numbers shape last body ≡ Ok (session, content) → IsSessionBody f numbers shape last session content body
body_taken f numbers shape last session content body are e =
    let t = whole_takes (front_bytes f numbers shape last) (FrontFits f numbers shape last) (front_in f numbers shape last) (front_reads f numbers shape last 0) body are (session, content) e in
    record { session_fits = t.0.0; content_fits = t.0.1; spelled = t.1 }

-- ---- the session that a body names

pub session_spelled : (f : Format) (numbers : Numbers) (last session : ℕ) (content : Body) → SessionFits f numbers last session → session_of f (spelling_with_session f session content) ≡ session
session_spelled One numbers last session content fits = sym fits
session_spelled Two numbers last session content fits =
    ap (from_le_bytes w64) (take_at (to_le_bytes w64 session) (spelling_of_content content) 8 (wide64.len session)) ∙ wide64.again session fits.0

-- a body that was read names the session that was read
pub session_read : (f : Format) (numbers : Numbers) (shape : Shape) (last session : ℕ) (content : Body) (body : List ℕ) → AreBytes body → body_with_session f numbers shape last body ≡ Ok (session, content) → session_of f body ≡ session
session_read f numbers shape last session content body are e =
    let is = body_taken f numbers shape last session content body are e in
    ap (session_of f) is.spelled ∙ session_spelled f numbers last session content is.session_fits
