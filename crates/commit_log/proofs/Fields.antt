-- The laws of what a body is made of.
use Rattle.std.proofs.Common.{◌≡◌, ℕ, ◌<◌, ◌≤◌, ◌^◌, true, false, ltb, List, [], ◌∷◌, ◌++◌, length, Option, Some, None, refl, sym, ap, subst, ◌∙◌, append_assoc, append-nil, arith}
use Rattle.std.specs.Int.{w16, w32, w64, to_le_bytes}
use Rattle.std.specs.List.{flat_map, AllByRecursion}
use Rattle.std.proofs.lemmas.Bool.{ltb-true, ltb-false}
use Rattle.base_types.specs.declared.calls.GrainId.{GrainId}
use Rattle.base_types.specs.declared.calls.Call.{Call}
use Rattle.base_types.specs.declared.shapes.Shape.{Shape}
use Rattle.field_codec.specs.declared.formats.Format.{Format}
use Rattle.field_codec.specs.declared.faults.CodecFault.TheVariants.{BadOrder, Unknown}
use Rattle.field_codec.specs.Spelling.{spelling_of_values, spelling_of_origin, spelling_of_call, CallFits, spelling_of_outcome, AnswerFits, ResultFits}
use Rattle.field_codec.specs.Chains.{Chained}
use Rattle.field_codec.specs.Readers.{whole, refused, field, choice, when_known, number_at, count_at}
use Rattle.field_codec.specs.declared.units.Numbers.{Numbers}
use Rattle.field_codec.specs.Units.{may_be_unit}
use Rattle.field_codec.specs.Fields.{exactly_at, unit_at, origin_at, answer_at, result_at}
use Rattle.field_codec.proofs.Readers.{Reads, Any, then, done, choose, where_known, never, said}
use Rattle.field_codec.proofs.Chains.{chain_reads}
use Rattle.field_codec.proofs.Counts.{wide16, reads16, reads32, reads64, count_reads, list_reads}
use Rattle.field_codec.proofs.Things.{ValuesFitExactly, exactly_reads, OriginFitsIn, unit_reads, origin_reads, answer_reads, result_reads}
use Rattle.commit_log.specs.declared.records.Written.{Written}
use Rattle.commit_log.specs.declared.records.CommitRecord.{CommitRecord}
use Rattle.commit_log.specs.Orders.{is_above, grain_after, IsAscending}
use Rattle.commit_log.specs.Spelling.{spelling_of_grain, spelling_of_write, WriteFits, WritesFit, AnswersFit, spelling_of_record}
use Rattle.commit_log.specs.Bodies.{params_in, IsShapeType, IsCallIn, IsRecordIn}
use Rattle.commit_log.specs.Fields.{grain_in, call_in, write_in, writes_in, answers_at, record_in}

module _ (shape : Shape) where
  -- ---- grains

  abbrev pub GrainFitsIn : GrainId → Type 0
  GrainFitsIn grain = (grain.kind < 2 ^ 16) × ((grain.key < 2 ^ 32) × IsShapeType shape grain.kind)

  grain_behind : (kind from : ℕ) → Reads from (λ (g : GrainId). Any g × (g.kind ≡ kind)) (λ g. to_le_bytes w32 g.key) (λ g. (g.key < 2 ^ 32) × IsShapeType shape g.kind)
      (choice (ltb kind (length shape.types)) (field (number_at w32) λ key here. whole (record { kind = kind; key = key })) (refused (Unknown from)))
  grain_behind kind from =
      let P : GrainId → Type 0 = λ g. Any g × (g.kind ≡ kind) in
      let Fits : GrainId → Type 0 = λ g. (g.key < 2 ^ 32) × IsShapeType shape g.kind in
      choose from P (λ g. to_le_bytes w32 g.key) Fits (ltb kind (length shape.types)) _ _
      (λ there. said from P P (λ g. to_le_bytes w32 g.key ++ []) (λ g. to_le_bytes w32 g.key) (λ g. (g.key < 2 ^ 32) × Unit {0}) Fits _ (λ g p. p) (λ g p. p) (λ g p. simp append-nil)
      (λ g p fits. (fits.0, subst (λ (k : ℕ). k < length shape.types) (sym p.1) (ltb-true _ _ there))) (λ g p fits. (fits.0, tt))
      (then (λ (g : GrainId). g.key) (to_le_bytes w32) (λ n. n < 2 ^ 32) (number_at w32) from P _ _ _ (reads32 from) λ key from1.
      done from1 _ (record { kind = kind; key = key }) ((tt, refl), refl) (λ d is i. record { kind = is.0.1 i; key = is.1 i })))
      (λ missing. never from P (λ g. to_le_bytes w32 g.key) Fits (Unknown from) (omega arith) (λ g p fits. let far : length shape.types ≤ kind = ltb-false _ _ missing in omega (arith, far, p.1, fits.1)))

  pub grain_reads : (low : ℕ) → Reads low Any spelling_of_grain GrainFitsIn (grain_in shape)
  unfolding grain_in
  grain_reads low = then (λ (g : GrainId). g.kind) (to_le_bytes w16) (λ n. n < 2 ^ 16) (number_at w16) low Any (λ g. to_le_bytes w32 g.key) (λ g. (g.key < 2 ^ 32) × IsShapeType shape g.kind) _ (reads16 low) grain_behind

-- ---- calls

some_is : (a b : ℕ) → Some a ≡ Some b → a ≡ b
some_is a b e = cc

module _ (format : Format) (shape : Shape) where
  -- what is left of a call behind its grain and its method
  abbrev MethodFits : Call → Type 0
  MethodFits call = (params : ℕ) × (params_in shape call.grain.kind call.method ≡ Some params) × ValuesFitExactly format 8 params call.args

  method_behind : (g : GrainId) (m from : ℕ) → Reads from (λ (c : Call). (Any c × (c.grain ≡ g)) × (c.method ≡ m)) (λ c. spelling_of_values c.args) MethodFits
      (when_known (params_in shape g.kind m) (Unknown from) λ params. field (exactly_at format 8 params) λ args there. whole (record { grain = g; method = m; args = args }))
  method_behind g m from =
      let P : Call → Type 0 = λ c. (Any c × (c.grain ≡ g)) × (c.method ≡ m) in
      let here : (c : Call) → P c → params_in shape c.grain.kind c.method ≡ params_in shape g.kind m = λ c p i. params_in shape (p.0.1 i).kind (p.1 i) in
      where_known from P (λ c. spelling_of_values c.args) MethodFits (params_in shape g.kind m) (Unknown from) _ (omega arith)
      (λ params is. said from P P (λ c. spelling_of_values c.args ++ []) (λ c. spelling_of_values c.args) (λ c. ValuesFitExactly format 8 params c.args × Unit {0}) MethodFits _ (λ c p. p) (λ c p. p) (λ c p. simp append-nil)
      (λ c p fits. (params, here c p ∙ is, fits.0))
      (λ c p fits. (subst (λ (k : ℕ). ValuesFitExactly format 8 k c.args) (some_is fits.0 params (sym fits.1 ∙ here c p ∙ is)) fits.2, tt))
      (then (λ (c : Call). c.args) spelling_of_values (ValuesFitExactly format 8 params) (exactly_at format 8 params) from P _ _ _ (exactly_reads format 8 params (omega arith) from) λ args from1.
      done from1 _ (record { grain = g; method = m; args = args }) (((tt, refl), refl), refl) (λ d p i. record { grain = p.0.0.1 i; method = p.0.1 i; args = p.1 i })))
      (λ none c p fits. let no : None ≡ Some fits.0 = sym none ∙ sym (here c p) ∙ fits.1 in cc)

  abbrev CallFitsIn : Call → Type 0
  CallFitsIn call = CallFits format call × IsCallIn shape call

  call_into : (c : Call) → GrainFitsIn shape c.grain × ((c.method < 2 ^ 16) × MethodFits c) → CallFitsIn c
  call_into c fits =
      let args = fits.1.1.2 in
      (record { kind = fits.0.0; key = fits.0.1.0; method = fits.1.0; args = (args.0, args.1.0) }, (fits.0.1.1, fits.1.1.1 ∙ ap Some (sym args.1.1)))

  call_out : (c : Call) → CallFitsIn c → GrainFitsIn shape c.grain × ((c.method < 2 ^ 16) × MethodFits c)
  call_out c fits = ((fits.0.kind, (fits.0.key, fits.1.0)), (fits.0.method, (length c.args, fits.1.1, (fits.0.args.0, (fits.0.args.1, refl)))))

  pub call_reads : (low : ℕ) → Reads low Any spelling_of_call CallFitsIn (call_in format shape)
  unfolding call_in
  call_reads low =
      said low Any Any _ spelling_of_call (λ c. GrainFitsIn shape c.grain × ((c.method < 2 ^ 16) × MethodFits c)) CallFitsIn (call_in format shape) (λ c p. tt) (λ c p. tt) (λ c p. simp append_assoc) (λ c p. call_into c) (λ c p. call_out c)
      (then (λ (c : Call). c.grain) spelling_of_grain (GrainFitsIn shape) (grain_in shape) low Any (λ c. to_le_bytes w16 c.method ++ spelling_of_values c.args) _ _ (grain_reads shape low) λ g from1.
      then (λ (c : Call). c.method) (to_le_bytes w16) (λ n. n < 2 ^ 16) (number_at w16) from1 _ (λ c. spelling_of_values c.args) _ _ (reads16 from1) λ m from2.
      method_behind g m from2)

-- ---- writes

module _ (shape : Shape) where
  abbrev WriteFitsIn : Option GrainId → Written → Type 0
  WriteFitsIn last w = WriteFits w × (IsShapeType shape w.grain.kind × (is_above last w.grain ≡ true))

  abbrev place_bytes : Written → List ℕ
  place_bytes w = to_le_bytes w64 w.place.offset ++ to_le_bytes w32 w.place.len

  abbrev PlaceFits : Option GrainId → Written → Type 0
  PlaceFits last w = (w.place.offset < 2 ^ 64) × ((w.place.len < 2 ^ 32) × (is_above last w.grain ≡ true))

  write_behind : (last : Option GrainId) (g : GrainId) (from : ℕ) → Reads from (λ (w : Written). Any w × (w.grain ≡ g)) place_bytes (PlaceFits last)
      (choice (is_above last g) (field (number_at w64) λ offset here. field (number_at w32) λ len there. whole (record { grain = g; place = record { offset = offset; len = len } })) (refused (BadOrder from)))
  write_behind last g from =
      let P : Written → Type 0 = λ w. Any w × (w.grain ≡ g) in
      choose from P place_bytes (PlaceFits last) (is_above last g) _ _
      (λ above. said from P P (λ w. to_le_bytes w64 w.place.offset ++ (to_le_bytes w32 w.place.len ++ [])) place_bytes (λ w. (w.place.offset < 2 ^ 64) × ((w.place.len < 2 ^ 32) × Unit {0})) (PlaceFits last) _ (λ w p. p) (λ w p. p) (λ w p. simp append-nil)
      (λ w p fits. (fits.0, (fits.1.0, ap (is_above last) p.1 ∙ above))) (λ w p fits. (fits.0, (fits.1.0, tt)))
      (then (λ (w : Written). w.place.offset) (to_le_bytes w64) (λ n. n < 2 ^ 64) (number_at w64) from P _ _ _ (reads64 from) λ o from1.
      then (λ (w : Written). w.place.len) (to_le_bytes w32) (λ n. n < 2 ^ 32) (number_at w32) from1 _ _ _ _ (reads32 from1) λ l from2.
      done from2 _ (record { grain = g; place = record { offset = o; len = l } }) (((tt, refl), refl), refl) (λ d p i. record { grain = p.0.0.1 i; place = record { offset = p.0.1 i; len = p.1 i } })))
      (λ below. never from P place_bytes (PlaceFits last) (BadOrder from) (omega arith) (λ w p fits. let clash : true ≡ false = sym fits.1.1 ∙ ap (is_above last) p.1 ∙ below in cc))

  write_into : (last : Option GrainId) (w : Written) → GrainFitsIn shape w.grain × PlaceFits last w → WriteFitsIn last w
  write_into last w fits = (record { kind = fits.0.0; key = fits.0.1.0; offset = fits.1.0; len = fits.1.1.0 }, (fits.0.1.1, fits.1.1.1))

  write_out : (last : Option GrainId) (w : Written) → WriteFitsIn last w → GrainFitsIn shape w.grain × PlaceFits last w
  write_out last w fits = ((fits.0.kind, (fits.0.key, fits.1.0)), (fits.0.offset, (fits.0.len, fits.1.1)))

  pub write_reads : (last : Option GrainId) (low : ℕ) → Reads low Any spelling_of_write (WriteFitsIn last) (write_in shape last)
  unfolding write_in
  write_reads last low =
      said low Any Any spelling_of_write spelling_of_write (λ w. GrainFitsIn shape w.grain × PlaceFits last w) (WriteFitsIn last) (write_in shape last) (λ w p. tt) (λ w p. tt) (λ w p. refl) (λ w p. write_into last w) (λ w p. write_out last w)
      (then (λ (w : Written). w.grain) spelling_of_grain (GrainFitsIn shape) (grain_in shape) low Any place_bytes (PlaceFits last) _ (grain_reads shape low) (write_behind last))

  abbrev AreTypes : List Written → Type 0
  AreTypes ws = AllByRecursion (λ w. IsShapeType shape w.grain.kind) ws

  chained_into : (last : Option GrainId) (ws : List Written) → Chained WriteFitsIn grain_after last ws → AllByRecursion WriteFits ws × AreTypes ws × IsAscending last ws
  chained_into last [] fits = (tt, tt, tt)
  chained_into last (w ∷ ws) fits =
      let more = chained_into (grain_after last w) ws fits.1 in
      ((fits.0.0, more.0), (fits.0.1.0, more.1), (fits.0.1.1, more.2))

  chained_out : (last : Option GrainId) (ws : List Written) → AllByRecursion WriteFits ws → AreTypes ws → IsAscending last ws → Chained WriteFitsIn grain_after last ws
  chained_out last [] fits types order = tt
  chained_out last (w ∷ ws) fits types order = ((fits.0, (types.0, order.0)), chained_out (grain_after last w) ws fits.1 types.1 order.1)

  abbrev WritesFitIn : List Written → Type 0
  WritesFitIn ws = WritesFit ws × AreTypes ws

  pub writes_reads : (low : ℕ) → Reads low Any (λ ws. to_le_bytes w16 (length ws) ++ flat_map spelling_of_write ws) WritesFitIn (writes_in shape)
  unfolding writes_in
  writes_reads low =
      let spell : List Written → List ℕ = λ ws. to_le_bytes w16 (length ws) ++ flat_map spelling_of_write ws in
      said low Any Any spell spell (λ ws. (length ws ≤ 64) × Chained WriteFitsIn grain_after None ws) WritesFitIn (writes_in shape) (λ ws p. tt) (λ ws p. tt) (λ ws p. refl)
      (λ ws p fits. let all = chained_into None ws fits.1 in ((fits.0, (all.0, all.2)), all.1)) (λ ws p fits. (fits.0.0, chained_out None ws fits.0.1.0 fits.1 fits.0.1.1))
      (then (λ (ws : List Written). length ws) (to_le_bytes w16) (λ n. n ≤ 64) (count_at w16 64) low Any (flat_map spelling_of_write) (Chained WriteFitsIn grain_after None) _ (count_reads w16 (2 ^ 16) 64 wide16 (omega arith) low) λ n from.
      chain_reads spelling_of_write WriteFitsIn (write_in shape) grain_after write_reads from None n)

-- ---- records and bodies

pub answers_read : (format : Format) (low : ℕ) → Reads low Any (λ xs. to_le_bytes w16 (length xs) ++ flat_map spelling_of_outcome xs) (AnswersFit format) (answers_at format)
answers_read format low = list_reads spelling_of_outcome (AnswerFits format) (answer_at format) (answer_reads format) w16 (2 ^ 16) 64 wide16 (omega arith) low

module _ (format : Format) (numbers : Numbers) (shape : Shape) where
  abbrev FieldsFit : CommitRecord → Type 0
  FieldsFit r = ((r.unit.0 < 2 ^ 64) × (may_be_unit numbers r.unit.0 ≡ true)) × (OriginFitsIn numbers r.origin × (CallFitsIn format shape r.call × (AnswersFit format r.answers × (ResultFits format r.result × (WritesFitIn shape r.writes × Unit {0})))))

  record_into : (r : CommitRecord) → FieldsFit r → IsRecordIn format numbers shape r
  record_into r f = record {
    fits = record { unit = f.0.0; origin = f.1.0.0; call = f.1.1.0.0; answers = f.1.1.1.0; result = f.1.1.1.1.0; writes = f.1.1.1.1.1.0.0 };
    units = record { unit = f.0.1; parent = f.1.0.1 };
    call = f.1.1.0.1;
    writes = f.1.1.1.1.1.0.1;
  }

  record_out : (r : CommitRecord) → IsRecordIn format numbers shape r → FieldsFit r
  record_out r is = ((is.fits.unit, is.units.unit), ((is.fits.origin, is.units.parent), ((is.fits.call, is.call), (is.fits.answers, (is.fits.result, ((is.fits.writes, is.writes), tt))))))

  pub record_reads : (low : ℕ) → Reads low Any spelling_of_record (IsRecordIn format numbers shape) (record_in format numbers shape)
  unfolding record_in
  record_reads low =
      said low Any Any _ spelling_of_record FieldsFit (IsRecordIn format numbers shape) (record_in format numbers shape) (λ r p. tt) (λ r p. tt) (λ r p. simp append-nil) (λ r p. record_into r) (λ r p. record_out r)
      (then (λ (r : CommitRecord). r.unit.0) (to_le_bytes w64) (λ n. (n < 2 ^ 64) × (may_be_unit numbers n ≡ true)) (unit_at numbers) low Any _ _ _ (unit_reads numbers low) λ unit from1.
      then (λ (r : CommitRecord). r.origin) spelling_of_origin (OriginFitsIn numbers) (origin_at numbers) from1 _ _ _ _ (origin_reads numbers from1) λ origin from2.
      then (λ (r : CommitRecord). r.call) spelling_of_call (CallFitsIn format shape) (call_in format shape) from2 _ _ _ _ (call_reads format shape from2) λ call from3.
      then (λ (r : CommitRecord). r.answers) (λ xs. to_le_bytes w16 (length xs) ++ flat_map spelling_of_outcome xs) (AnswersFit format) (answers_at format) from3 _ _ _ _ (answers_read format from3) λ answers from4.
      then (λ (r : CommitRecord). r.result) spelling_of_outcome (ResultFits format) (result_at format) from4 _ _ _ _ (result_reads format from4) λ result from5.
      then (λ (r : CommitRecord). r.writes) (λ ws. to_le_bytes w16 (length ws) ++ flat_map spelling_of_write ws) (WritesFitIn shape) (writes_in shape) from5 _ _ _ _ (writes_reads shape from5) λ writes from6.
      done from6 _ (record { unit = record { 0 = unit }; origin = origin; call = call; answers = answers; result = result; writes = writes }) ((((((tt, refl), refl), refl), refl), refl), refl)
      (λ d p i. record { unit = record { 0 = p.0.0.0.0.0.1 i }; origin = p.0.0.0.0.1 i; call = p.0.0.0.1 i; answers = p.0.0.1 i; result = p.0.1 i; writes = p.1 i }))
