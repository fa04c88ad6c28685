-- A longer journal backs what its entries acknowledge.
use Rattle.std.proofs.Common.{◌≡◌, ◌⊎◌, inl, inr, List, [], ◌∷◌, ◌++◌, refl, sym, ◌∙◌, ap, subst, append_assoc}
use Rattle.base_types.specs.declared.entries.Entry.{Entry}
use Rattle.core_model.specs.CoreState.{Member}
use Rattle.promise_spec.specs.Records.{Commit}
use Rattle.promise_spec.specs.Crashes.{Acknowledges}
use Rattle.promise_spec.specs.Journals.{Settlement, Backs, commits_of, entries_of}
use Rattle.promise_spec.proofs.Lists.{head_of, tail_of, in_append, either_in, in_flat}
use Rattle.promise_laws.proofs.JournalCrashes.{commits_of-append}

-- where a settlement of a longer journal stands: in the first part, or behind it
parted : (j batch front back : List Settlement) (s : Settlement) → j ++ batch ≡ front ++ (s ∷ back)
    → ((mid : List Settlement) × (j ≡ front ++ (s ∷ mid))) ⊎ ((mid : List Settlement) × ((front ≡ j ++ mid) × (batch ≡ mid ++ (s ∷ back))))
parted [] batch front back s same = inr (front, (refl, same))
parted (x ∷ j) batch [] back s same = inl (j, ap (λ (y : Settlement). y ∷ j) (head_of x s (j ++ batch) back same))
parted (x ∷ j) batch (y ∷ front) back s same =
    let heads : x ≡ y = head_of x y (j ++ batch) (front ++ (s ∷ back)) same in
    elim (parted j batch front back s (tail_of x y (j ++ batch) (front ++ (s ∷ back)) same)) [
      | inl t ↦ inl (t.0, λ i. heads i ∷ t.1 i)
      | inr t ↦ inr (t.0, ((λ i. sym heads i ∷ t.1.0 i), t.1.1))
    ]

-- Behind a journal that backs its entries: what an older entry acknowledges isn't in the batch, and what one of the batch does
-- stands before it or with it.
pub backs_on : (j batch : List Settlement) → Backs j (commits_of j)
    → ((e : Entry) (l : Commit) → Member e (entries_of j) → Member l (commits_of batch) → Acknowledges e l → ⊥)
    → ((e : Entry) (l : Commit) (s : Settlement) (front back : List Settlement) → batch ≡ front ++ (s ∷ back) → Member e s.entries → Member l (commits_of (j ++ batch)) → Acknowledges e l → Member l (commits_of (j ++ (front ++ s ∷ []))))
    → Backs (j ++ batch) (commits_of (j ++ batch))
backs_on j batch backs older within e l s front back split there added is = elim (parted j batch front back s split) [
  | inl t ↦
      let said : Member e (entries_of j) = in_flat (λ (x : Settlement). x.entries) s e j (subst (λ (k : List Settlement). Member s k) (sym t.1) (in_append s front (s ∷ t.0) (inr (inl refl)))) there in
      elim (either_in l (commits_of j) (commits_of batch) (subst (λ (cs : List Commit). Member l cs) (commits_of-append j batch) added)) [
        | inl before ↦ backs e l s front t.0 t.1 there before is
        | inr later ↦ absurd (older e l said later is)
      ]
  | inr t ↦
      let whole : j ++ (t.0 ++ s ∷ []) ≡ front ++ s ∷ [] = sym (append_assoc j t.0 (s ∷ [])) ∙ ap (λ (k : List Settlement). k ++ s ∷ []) (sym t.1.0) in
      subst (λ (k : List Settlement). Member l (commits_of k)) whole (within e l s t.0 back t.1.1 there added is)
]
