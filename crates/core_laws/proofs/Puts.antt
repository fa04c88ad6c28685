-- Functions with one entry replaced.
use Rattle.std.proofs.Common.{◌≡◌, refl}
use Rattle.std.proofs.lemmas.Bool.{cond_both}
use Rattle.cell_model.proofs.Units.{same_unit-true, same_unit-false, same_grain-true, same_grain-false}
use Rattle.core_model.specs.CoreState.{UnitNo, GrainId, same_unit, same_grain, put, put_grain}

-- a fact at the new entry, and at each other
pub put-at : {A : Type 0} (f : UnitNo → A) (k : UnitNo) (v : A) (P : A → Type 0) (j : UnitNo) → (j ≡ k → P v) → ((j ≡ k → ⊥) → P (f j)) → P (put f k v j)
unfolding put
put-at f k v P j same other = cond_both (same_unit j k) v (f j) P (λ e. same (same_unit-true j k e)) (λ e. other (same_unit-false j k e))

pub put-same : {A : Type 0} (f : UnitNo → A) (k : UnitNo) (v : A) → put f k v k ≡ v
put-same f k v = put-at f k v (λ x. x ≡ v) k (λ e. refl) (λ n. absurd (n refl))

pub put-is : {A : Type 0} (f : UnitNo → A) (k : UnitNo) (v : A) (j : UnitNo) → j ≡ k → put f k v j ≡ v
put-is f k v j e = put-at f k v (λ x. x ≡ v) j (λ q. refl) (λ n. absurd (n e))

pub put-other : {A : Type 0} (f : UnitNo → A) (k : UnitNo) (v : A) (j : UnitNo) → (j ≡ k → ⊥) → put f k v j ≡ f j
put-other f k v j n = put-at f k v (λ x. x ≡ f j) j (λ e. absurd (n e)) (λ m. refl)

-- the other way round: from a fact at the changed function
pub put-from : {A : Type 0} (f : UnitNo → A) (k : UnitNo) (v : A) (P : A → Type 0) (Q : Type 0) (j : UnitNo) → (j ≡ k → P v → Q) → ((j ≡ k → ⊥) → P (f j) → Q) → P (put f k v j) → Q
put-from f k v P Q j same other = put-at f k v (λ x. P x → Q) j same other

pub grain-at : {A : Type 0} (f : GrainId → A) (k : GrainId) (v : A) (P : A → Type 0) (j : GrainId) → (j ≡ k → P v) → ((j ≡ k → ⊥) → P (f j)) → P (put_grain f k v j)
unfolding put_grain
grain-at f k v P j same other = cond_both (same_grain j k) v (f j) P (λ e. same (same_grain-true j k e)) (λ e. other (same_grain-false j k e))

pub grain-same : {A : Type 0} (f : GrainId → A) (k : GrainId) (v : A) → put_grain f k v k ≡ v
grain-same f k v = grain-at f k v (λ x. x ≡ v) k (λ e. refl) (λ n. absurd (n refl))

pub grain-is : {A : Type 0} (f : GrainId → A) (k : GrainId) (v : A) (j : GrainId) → j ≡ k → put_grain f k v j ≡ v
grain-is f k v j e = grain-at f k v (λ x. x ≡ v) j (λ q. refl) (λ n. absurd (n e))

pub grain-other : {A : Type 0} (f : GrainId → A) (k : GrainId) (v : A) (j : GrainId) → (j ≡ k → ⊥) → put_grain f k v j ≡ f j
grain-other f k v j n = grain-at f k v (λ x. x ≡ f j) j (λ e. absurd (n e)) (λ m. refl)

pub grain-from : {A : Type 0} (f : GrainId → A) (k : GrainId) (v : A) (P : A → Type 0) (Q : Type 0) (j : GrainId) → (j ≡ k → P v → Q) → ((j ≡ k → ⊥) → P (f j) → Q) → P (put_grain f k v j) → Q
grain-from f k v P Q j same other = grain-at f k v (λ x. P x → Q) j same other
