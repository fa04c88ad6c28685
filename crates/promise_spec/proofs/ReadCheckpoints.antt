-- The pieces of a checkpoint in a manager file, from what is read and back.
use Rattle.std.proofs.Common.{◌≡◌, ℕ, ◌+◌, ◌^◌, ◌<◌, ◌≤◌, nat_lt, Bool, true, false, cond, eqb, if◌then◌else◌, Option, None, Some, List, [], ◌∷◌, ◌++◌, length, map, fold, Result, Ok, Err, refl, sym, ◌∙◌, ap, subst, append_assoc}
use Rattle.std.specs.Prelude.{◌&&◌}
use Rattle.std.specs.Int.{w64}
use Rattle.std.proofs.lemmas.Bool.{and_parts, ltb-true}
use Rattle.std.proofs.lemmas.List.Sums.{fold-append}
use Rattle.std.specs.List.{flat_map, AllByRecursion}
use Rattle.base_types.specs.declared.calls.GrainId.{GrainId}
use Rattle.base_types.specs.declared.shapes.Shape.{Shape}
use Rattle.field_codec.specs.declared.formats.Format.{Format}
use Rattle.field_codec.specs.declared.units.Numbers.TheVariants.{Logged}
use Rattle.field_codec.specs.Units.{SessionFits}
use Rattle.field_codec.specs.declared.faults.CodecFault.{CodecFault}
use Rattle.field_codec.specs.Chains.{Chained}
use Rattle.field_codec.specs.declared.faults.CodecFault.TheVariants.{Unknown, Trailing}
use Rattle.field_codec.specs.Readers.{AreBytes, Reader, whole, refused, field, choice, number_at}
use Rattle.field_codec.proofs.Readers.{then_ok, ok_is, chosen}
use Rattle.commit_log.specs.declared.records.CheckpointHead.{CheckpointHead}
use Rattle.commit_log.specs.declared.records.CheckpointPiece.{CheckpointPiece}
use Rattle.commit_log.specs.declared.records.Written.{Written}
use Rattle.commit_log.specs.Orders.{grain_after}
use Rattle.commit_log.specs.Checkpoints.{flag_of, spelling_of_piece, IsAsFirst, IsSavedIn, IsPieceBody, is_as, next_in, may_be_next, tested_at, piece_in, piece_body_in}
use Rattle.commit_log.proofs.CheckpointPieces.{piece_again, piece_taken}
use Rattle.promise_spec.specs.Programs.{Program, shape_in}
use Rattle.promise_spec.specs.Openings.{LogBase, ReadEntry, LogRead, behind_base, and_piece, saved_behind, entries_behind}

-- the pieces' writes, one behind the other
abbrev pub joined : List (List Written) → List Written → List Written
joined front last = flat_map (λ piece. piece) front ++ last

-- the bodies of pieces with these writes
abbrev pub bodies_saved : Format → CheckpointHead → List (List Written) → List Written → List (List ℕ)
bodies_saved format head front last = map (spelling_of_piece format 1 head.count head.next_unit.0 head.session) front ++ spelling_of_piece format 0 head.count head.next_unit.0 head.session last ∷ []

-- a piece has at most so many writes
abbrev pub IsSmallPiece : List Written → Type 0
IsSmallPiece piece = length piece ≤ 65536

-- the grain that the next write has to be above, behind these
abbrev pub last_of_all : List Written → Option GrainId
last_of_all before = fold grain_after None before

module _ (format : Format) (q : Program) where
  -- the writes hang together behind those before
  abbrev pub Goes : List Written → List Written → Type 0
  Goes before ws = Chained (IsSavedIn (shape_in q)) grain_after (last_of_all before) ws

  -- of two parts each does
  chained_parts : (last : Option GrainId) (a b : List Written) → Chained (IsSavedIn (shape_in q)) grain_after last (a ++ b)
      → Chained (IsSavedIn (shape_in q)) grain_after last a × Chained (IsSavedIn (shape_in q)) grain_after (fold grain_after last a) b
  chained_parts last [] b all = (tt, all)
  chained_parts last (w ∷ a) b all = let more = chained_parts (grain_after last w) a b all.1 in ((all.0, more.0), more.1)

  chained_both : (last : Option GrainId) (a b : List Written) → Chained (IsSavedIn (shape_in q)) grain_after last a → Chained (IsSavedIn (shape_in q)) grain_after (fold grain_after last a) b
      → Chained (IsSavedIn (shape_in q)) grain_after last (a ++ b)
  chained_both last [] b one two = two
  chained_both last (w ∷ a) b one two = (one.0, chained_both (grain_after last w) a b one.1 two)

  -- behind more of them the last grain is theirs
  last_more : (before a : List Written) → last_of_all (before ++ a) ≡ fold grain_after (last_of_all before) a
  last_more before a = fold-append grain_after None before a

  -- ---- what is spelled is read

  module _ (head : CheckpointHead) (low : head.count < 2 ^ 63) (next : (0 < head.next_unit.0) × (head.next_unit.0 ≤ 2 ^ 63)) (session : SessionFits format Logged 0 head.session) (bodies : List (List ℕ)) (end : Result (List ReadEntry) ℕ) (missing : ℕ) where
    -- the base of these writes
    abbrev based : List Written → LogBase
    based writes = record { count = head.count; next = head.next_unit.0; session = head.session; writes = writes }

    abbrev piece_with : Bool → List Written → CheckpointPiece
    piece_with more writes = record { more = more; head = head; writes = writes }

    is_piece : (first : Option CheckpointHead) → IsAsFirst first head → (more : Bool) (before ws : List Written) → IsSmallPiece ws → Goes before ws
        → piece_body_in format (shape_in q) first (last_of_all before) (spelling_of_piece format (flag_of more) head.count head.next_unit.0 head.session ws) ≡ Ok (piece_with more ws)
    is_piece first same more before ws size goes =
        piece_again format (shape_in q) first (last_of_all before) (piece_with more ws) (spelling_of_piece format (flag_of more) head.count head.next_unit.0 head.session ws)
        (record { fits = record { count = low; next = next; session = session; same = same; size = size; named = goes }; spelled = refl })

    -- The bodies of a checkpoint are read, and the entries behind them.
    pub pieces_read : (gate : ℕ) (first : Option CheckpointHead) → IsAsFirst first head → (before : List Written) (front : List (List Written)) (last : List Written)
        → AllByRecursion IsSmallPiece front → IsSmallPiece last → Goes before (joined front last)
        → (behind : ℕ) × (saved_behind format q gate first before (map (spelling_of_piece format 1 head.count head.next_unit.0 head.session) front ++ spelling_of_piece format 0 head.count head.next_unit.0 head.session last ∷ bodies) end missing
        ≡ behind_base (based (before ++ joined front last)) (entries_behind format q head.session behind bodies end))
    pieces_read gate first same before [] last sizes size goes =
        let body : List ℕ = spelling_of_piece format 0 head.count head.next_unit.0 head.session last in
        let is : piece_body_in format (shape_in q) first (last_of_all before) body ≡ Ok (piece_with false last) = is_piece first same false before last size goes in (
          gate + 5 + length body,
          λ i. and_piece (gate + 5) (λ piece. if piece.more then saved_behind format q (gate + 5 + length body) (Some piece.head) (before ++ piece.writes) bodies end missing
              else behind_base (record { count = piece.head.count; next = piece.head.next_unit.0; session = piece.head.session; writes = before ++ piece.writes }) (entries_behind format q piece.head.session (gate + 5 + length body) bodies end)) (is i),
        )
    pieces_read gate first same before (ws ∷ front) last sizes size goes =
        let body : List ℕ = spelling_of_piece format 1 head.count head.next_unit.0 head.session ws in
        let later : List (List ℕ) = map (spelling_of_piece format 1 head.count head.next_unit.0 head.session) front ++ spelling_of_piece format 0 head.count head.next_unit.0 head.session last ∷ bodies in
        let split : Goes before (ws ++ joined front last) = subst (Goes before) (append_assoc ws (flat_map (λ piece. piece) front) last) goes in
        let parts = chained_parts (last_of_all before) ws (joined front last) split in
        let is : piece_body_in format (shape_in q) first (last_of_all before) body ≡ Ok (piece_with true ws) = is_piece first same true before ws sizes.0 parts.0 in
        let on : Goes (before ++ ws) (joined front last) = subst (λ (g : Option GrainId). Chained (IsSavedIn (shape_in q)) grain_after g (joined front last)) (sym (last_more before ws)) parts.1 in
        let more = pieces_read (gate + 5 + length body) (Some head) refl (before ++ ws) front last sizes.1 size on in
        let writes : (before ++ ws) ++ joined front last ≡ before ++ joined (ws ∷ front) last =
        append_assoc before ws (joined front last) ∙ ap (λ (l : List Written). before ++ l) (sym (append_assoc ws (flat_map (λ piece. piece) front) last)) in
        let here : saved_behind format q gate first before (body ∷ later) end missing ≡ saved_behind format q (gate + 5 + length body) (Some head) (before ++ ws) later end missing =
        λ i. and_piece (gate + 5) (λ piece. if piece.more then saved_behind format q (gate + 5 + length body) (Some piece.head) (before ++ piece.writes) later end missing
        else behind_base (record { count = piece.head.count; next = piece.head.next_unit.0; session = piece.head.session; writes = before ++ piece.writes }) (entries_behind format q piece.head.session (gate + 5 + length body) later end)) (is i) in
        (more.0, here ∙ more.1 ∙ ap (λ (l : List Written). behind_base (based l) (entries_behind format q head.session more.0 bodies end)) writes)

  -- ---- what is read is spelled

  -- These bodies were read as the pieces of a checkpoint, behind these writes, and the entries behind them.
  pub record AreSavedPieces (first : Option CheckpointHead) (before : List Written) (bodies : List (List ℕ)) (end : Result (List ReadEntry) ℕ) (l : LogRead) : Type 0 where
    pub head : CheckpointHead
    pub same : IsAsFirst first head
    pub low : head.count < 2 ^ 63
    pub next : (0 < head.next_unit.0) × (head.next_unit.0 ≤ 2 ^ 63)
    pub session : SessionFits format Logged 0 head.session
    pub front : List (List Written)
    pub last : List Written
    pub rest : List (List ℕ)
    pub gate : ℕ
    pub spelled : bodies ≡ map (spelling_of_piece format 1 head.count head.next_unit.0 head.session) front ++ spelling_of_piece format 0 head.count head.next_unit.0 head.session last ∷ rest
    pub sizes : AllByRecursion IsSmallPiece front
    pub size : IsSmallPiece last
    pub goes : Goes before (joined front last)
    pub base : l.base ≡ record { count = head.count; next = head.next_unit.0; session = head.session; writes = before ++ joined front last }
    pub entries : entries_behind format q head.session gate rest end ≡ Ok l.entries
    pub bytes : AllByRecursion AreBytes rest

  piece_by : (at : ℕ) (behind : CheckpointPiece → Result LogRead ℕ) (read : Result CheckpointPiece CodecFault) (l : LogRead) → and_piece at behind read ≡ Ok l → (p : CheckpointPiece) × (read ≡ Ok p) × (behind p ≡ Ok l)
  piece_by at behind (Ok p) l e = (p, refl, e)
  piece_by at behind (Err fault) l e = absurd cc

  pub base_by : (base : LogBase) (read : Result (List ReadEntry) ℕ) (l : LogRead) → behind_base base read ≡ Ok l → (l.base ≡ base) × (read ≡ Ok l.entries)
  base_by base (Ok entries) l e = (let is : record { base = base; entries = entries } ≡ l = cc e in (ap (λ (x : LogRead). x.base) (sym is), ap (λ (x : LogRead). Ok x.entries) is))
  base_by base (Err place) l e = absurd cc

  -- behind a piece that was read
  module _ (gate : ℕ) (first : Option CheckpointHead) (before : List Written) (body : List ℕ) (bodies : List (List ℕ)) (end : Result (List ReadEntry) ℕ) (missing : ℕ) (l : LogRead) (are : AllByRecursion AreBytes bodies)
      (p : CheckpointPiece) (is : IsPieceBody format (shape_in q) first (last_of_all before) p body) where
    -- the log that goes on with more pieces, or with entries
    abbrev goes_on : Result LogRead ℕ
    goes_on = saved_behind format q (gate + 5 + length body) (Some p.head) (before ++ p.writes) bodies end missing

    abbrev ends_here : Result LogRead ℕ
    ends_here = behind_base (record { count = p.head.count; next = p.head.next_unit.0; session = p.head.session; writes = before ++ p.writes }) (entries_behind format q p.head.session (gate + 5 + length body) bodies end)

    last_piece : p.more ≡ false → ends_here ≡ Ok l → AreSavedPieces first before (body ∷ bodies) end l
    last_piece flag e =
        let read = base_by (record { count = p.head.count; next = p.head.next_unit.0; session = p.head.session; writes = before ++ p.writes }) (entries_behind format q p.head.session (gate + 5 + length body) bodies end) l e in
        let body_is : body ≡ spelling_of_piece format 0 p.head.count p.head.next_unit.0 p.head.session p.writes = is.spelled ∙ ap (λ (b : Bool). spelling_of_piece format (flag_of b) p.head.count p.head.next_unit.0 p.head.session p.writes) flag in
        record {
          head = p.head;
          same = is.fits.same;
          low = is.fits.count;
          next = is.fits.next;
          session = is.fits.session;
          front = [];
          last = p.writes;
          rest = bodies;
          gate = gate + 5 + length body;
          spelled = ap (λ (b : List ℕ). b ∷ bodies) body_is;
          sizes = tt;
          size = is.fits.size;
          goes = is.fits.named;
          base = read.0;
          entries = read.1;
          bytes = are;
        }

    front_piece : p.more ≡ true → AreSavedPieces (Some p.head) (before ++ p.writes) bodies end l → AreSavedPieces first before (body ∷ bodies) end l
    front_piece flag r =
        let body_is : body ≡ spelling_of_piece format 1 r.head.count r.head.next_unit.0 r.head.session p.writes =
        is.spelled ∙ (λ i. spelling_of_piece format (flag_of (flag i)) (sym r.same i).count (sym r.same i).next_unit.0 (sym r.same i).session p.writes) in
        let goes : Goes before (p.writes ++ joined r.front r.last) =
        chained_both (last_of_all before) p.writes (joined r.front r.last) is.fits.named
        (subst (λ (g : Option GrainId). Chained (IsSavedIn (shape_in q)) grain_after g (joined r.front r.last)) (last_more before p.writes) r.goes) in
        let writes : (before ++ p.writes) ++ joined r.front r.last ≡ before ++ joined (p.writes ∷ r.front) r.last =
        append_assoc before p.writes (joined r.front r.last) ∙ ap (λ (x : List Written). before ++ x) (sym (append_assoc p.writes (flat_map (λ piece. piece) r.front) r.last)) in
        record {
          head = r.head;
          same = subst (IsAsFirst first) (sym r.same) is.fits.same;
          low = r.low;
          next = r.next;
          session = r.session;
          front = p.writes ∷ r.front;
          last = r.last;
          rest = r.rest;
          gate = r.gate;
          spelled = λ i. body_is i ∷ r.spelled i;
          sizes = (is.fits.size, r.sizes);
          size = r.size;
          goes = subst (Goes before) (sym (append_assoc p.writes (flat_map (λ piece. piece) r.front) r.last)) goes;
          base = r.base ∙ ap (λ (x : List Written). record { count = r.head.count; next = r.head.next_unit.0; session = r.head.session; writes = x }) writes;
          entries = r.entries;
          bytes = r.bytes;
        }

    piece_read : (goes_on ≡ Ok l → AreSavedPieces (Some p.head) (before ++ p.writes) bodies end l) → (more : Bool) → p.more ≡ more → (if p.more then goes_on else ends_here) ≡ Ok l → AreSavedPieces first before (body ∷ bodies) end l
    piece_read later false flag e = last_piece flag (sym (ap (λ (b : Bool). if b then goes_on else ends_here) flag) ∙ e)
    piece_read later true flag e = front_piece flag (later (sym (ap (λ (b : Bool). if b then goes_on else ends_here) flag) ∙ e))

  pub pieces_of_read : (gate : ℕ) (first : Option CheckpointHead) (before : List Written) (bodies : List (List ℕ)) (end : Result (List ReadEntry) ℕ) (missing : ℕ) (l : LogRead)
      → AllByRecursion AreBytes bodies → saved_behind format q gate first before bodies end missing ≡ Ok l → AreSavedPieces first before bodies end l
  pieces_of_read gate first before [] end missing l are e = absurd cc
  pieces_of_read gate first before (body ∷ bodies) end missing l are e =
      let t = piece_by (gate + 5) (λ piece. if piece.more then saved_behind format q (gate + 5 + length body) (Some piece.head) (before ++ piece.writes) bodies end missing
      else behind_base (record { count = piece.head.count; next = piece.head.next_unit.0; session = piece.head.session; writes = before ++ piece.writes }) (entries_behind format q piece.head.session (gate + 5 + length body) bodies end))
      (piece_body_in format (shape_in q) first (last_of_all before) body) l e in
      piece_read gate first before body bodies end missing l are.1 t.0 (piece_taken format (shape_in q) first (last_of_all before) t.0 body are.0 t.1)
      (λ on. pieces_of_read (gate + 5 + length body) (Some t.0.head) (before ++ t.0.writes) bodies end missing l are.1 on) t.0.more refl t.2

-- ---- the number of the next unit, whatever the bytes are

-- a field was read, and then the rest
field_ok : {A C : Type 0} (read : Reader A) (k : A → ℕ → Reader C) (bytes : List ℕ) (at : ℕ) (c : C × ℕ) → field read k bytes at ≡ Ok c → (x : A × ℕ) × (read bytes at ≡ Ok x) × (k x.0 at bytes x.1 ≡ Ok c)
unfolding field
field_ok read k bytes at c e = then_ok (read bytes at) (λ x. k x.0 at bytes x.1) c e

-- a test that passed
choice_ok : (b : Bool) (n : ℕ) (fault : CodecFault) (bytes : List ℕ) (at : ℕ) (c : ℕ × ℕ) → choice b (whole n) (refused fault) bytes at ≡ Ok c → (b ≡ true) × (n ≡ c.0)
unfolding choice whole refused
choice_ok true n fault bytes at c e = (refl, (ok_is n c.0 at c.1 e).0)
choice_ok false n fault bytes at c e = absurd cc

tested_ok : (test : ℕ → Bool) (bytes : List ℕ) (at : ℕ) (c : ℕ × ℕ) → tested_at test bytes at ≡ Ok c → test c.0 ≡ true
unfolding tested_at
tested_ok test bytes at c e =
    let t = field_ok (number_at w64) (λ n place. choice (test n) (whole n) (refused (Unknown place))) bytes at c e in
    let u = choice_ok (test t.0.0) t.0.0 (Unknown at) bytes t.0.1 c t.2 in
    sym (ap test u.1) ∙ u.0

-- the number of a piece that is read is tested
piece_next : (format : Format) (shape : Shape) (first : Option CheckpointHead) (last : Option GrainId) (bytes : List ℕ) (at : ℕ) (c : CheckpointPiece × ℕ) → piece_in format shape first last bytes at ≡ Ok c → may_be_next first c.0.head.next_unit.0 ≡ true
unfolding piece_in whole
piece_next format shape first last bytes at c e =
    let a = field_ok _ _ bytes at c e in
    let b = field_ok _ _ bytes a.0.1 c a.2 in
    let d = field_ok _ _ bytes b.0.1 c b.2 in
    let s = field_ok _ _ bytes d.0.1 c d.2 in
    let f = field_ok _ _ bytes s.0.1 c s.2 in
    let test : may_be_next first d.0.0 ≡ true = tested_ok (may_be_next first) bytes b.0.1 d.0 d.1 in
    let is = ok_is (record { more = a.0.0; head = record { count = b.0.0; next_unit = record { 0 = d.0.0 }; session = s.0.0 }; writes = f.0.0 }) c.0 f.0.1 c.1 f.2 in
    subst (λ (p : CheckpointPiece). may_be_next first p.head.next_unit.0 ≡ true) is.0 test

body_next : (format : Format) (shape : Shape) (first : Option CheckpointHead) (last : Option GrainId) (body : List ℕ) (p : CheckpointPiece) → piece_body_in format shape first last body ≡ Ok p → 0 < p.head.next_unit.0
body_next format shape first last body p e =
    let b = then_ok (piece_in format shape first last body 0) (λ (x : CheckpointPiece × ℕ). cond (eqb x.1 (length body)) (Ok x.0) (Err (Trailing x.1))) p e in
    let is = chosen (eqb b.0.1 (length body)) b.0.0 (Trailing b.0.1) p b.2 in
    let test : may_be_next first p.head.next_unit.0 ≡ true = subst (λ (x : CheckpointPiece). may_be_next first x.head.next_unit.0 ≡ true) is.1 (piece_next format shape first last body 0 b.0 b.1) in
    let low = and_parts (nat_lt 0 p.head.next_unit.0 && nat_lt p.head.next_unit.0 9223372036854775809) (is_as (next_in first) p.head.next_unit.0) test in
    ltb-true 0 p.head.next_unit.0 (and_parts (nat_lt 0 p.head.next_unit.0) (nat_lt p.head.next_unit.0 9223372036854775809) low.0).0

-- behind a piece it is above 0
next_by : (format : Format) (q : Program) (base : LogBase) (on : Result LogRead ℕ) (entries : Result (List ReadEntry) ℕ) (l : LogRead) → 0 < base.next → (on ≡ Ok l → 0 < l.base.next)
    → (more : Bool) → (if more then on else behind_base base entries) ≡ Ok l → 0 < l.base.next
next_by format q base on entries l above later true e = later e
next_by format q base on entries l above later false e = subst (λ (b : LogBase). 0 < b.next) (sym (base_by format q base entries l e).0) above

-- so it is of the base of a checkpoint that is read
pub saved_next : (format : Format) (q : Program) (gate : ℕ) (first : Option CheckpointHead) (before : List Written) (bodies : List (List ℕ)) (end : Result (List ReadEntry) ℕ) (missing : ℕ) (l : LogRead)
    → saved_behind format q gate first before bodies end missing ≡ Ok l → 0 < l.base.next
saved_next format q gate first before [] end missing l e = absurd cc
saved_next format q gate first before (body ∷ bodies) end missing l e =
    let t = piece_by format q (gate + 5) (λ piece. if piece.more then saved_behind format q (gate + 5 + length body) (Some piece.head) (before ++ piece.writes) bodies end missing
    else behind_base (record { count = piece.head.count; next = piece.head.next_unit.0; session = piece.head.session; writes = before ++ piece.writes }) (entries_behind format q piece.head.session (gate + 5 + length body) bodies end))
    (piece_body_in format (shape_in q) first (last_of_all before) body) l e in
    next_by format q (record { count = t.0.head.count; next = t.0.head.next_unit.0; session = t.0.head.session; writes = before ++ t.0.writes })
    (saved_behind format q (gate + 5 + length body) (Some t.0.head) (before ++ t.0.writes) bodies end missing) (entries_behind format q t.0.head.session (gate + 5 + length body) bodies end) l
    (body_next format (shape_in q) first (last_of_all before) body t.0 t.1)
    (λ on. saved_next format q (gate + 5 + length body) (Some t.0.head) (before ++ t.0.writes) bodies end missing l on) t.0.more t.2
