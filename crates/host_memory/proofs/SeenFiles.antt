-- The files at hand, after one event more.
use Rattle.std.proofs.Common.{◌≡◌, inl, inr, ℕ, Bool, true, false, if◌then◌else◌, ◌||◌, List, [], ◌∷◌, ◌++◌, Vec, refl, sym, ◌∙◌, ap}
use Rattle.std.specs.declared.alloc.Global.{Global}
use Rattle.std.proofs.lemmas.Bool.{cases_Bool}
use Rattle.host_trait.specs.declared.channels.FileId.{FileId}
use Rattle.host_trait.specs.Disk.{FileState, settled}
use Rattle.host_trait.specs.Files.{same_file}
use Rattle.host_trait.proofs.Names.{same_file-is}
use Rattle.host_trait.proofs.Crashes.{seen-after_sync}
use Rattle.host_memory.specs.declared.events.Event.{Event}
use Rattle.host_memory.specs.declared.events.Event.TheVariants as event
use Rattle.host_memory.specs.declared.events.Noted.{Noted}
use Rattle.host_memory.specs.declared.files.Stored.{Stored}
use Rattle.host_memory.specs.Table.{bytes_in, written_in, SameBytes}
use Rattle.host_memory.specs.Replay.{is_on, changed, gives_bytes, state_step, written_step, state_of, written_by, AreSeen}
use Rattle.host_memory.proofs.Worlds.{after_all-push}

-- the same files at hand
pub seen_same : (old new : List Stored) (events : List Noted) → SameBytes old new → AreSeen old events → AreSeen new events
seen_same old new events same seen f = ((same f).0 ∙ (seen f).0, (same f).1 ∙ (seen f).1)

-- an event after which a read gives what it gave
module _ (files : List Stored) (events : List Noted) (e : Noted) (seen : AreSeen files events) where
  pub seen_kept : ((f : FileId) → (state_step f e.event (state_of events f)).seen ≡ (state_of events f).seen) → ((f : FileId) → written_step f e.event (written_by events f) ≡ written_by events f) → AreSeen files (events ++ e ∷ [])
  seen_kept same unwritten f = (
    (seen f).0 ∙ sym (same f) ∙ sym (ap (λ (s : FileState). s.seen) (after_all-push (state_step f) (settled []) events e)),
    (seen f).1 ∙ sym (unwritten f) ∙ sym (after_all-push (written_step f) false events e),
  )

-- an event that gives a file bytes
pub seen_given : (files new : List Stored) (events : List Noted) (e : Noted) (file : FileId) (bytes : List ℕ) → AreSeen files events
    → ((f : FileId) → is_on f e.event ≡ same_file file f) → gives_bytes e.event ≡ true → (changed e.event (state_of events file)).seen ≡ bytes
    → ((f : FileId) → bytes_in new f ≡ (if same_file file f then bytes else bytes_in files f)) → ((f : FileId) → written_in new f ≡ (same_file file f || written_in files f)) → AreSeen new (events ++ e ∷ [])
seen_given files new events e file bytes seen on gives is change written f = elim (cases_Bool (same_file file f)) [
  | inl this ↦
      let here : is_on f e.event ≡ true = on f ∙ this in
      let name : file ≡ f = same_file-is file f this in (
        change f ∙ ap (λ (b : Bool). if b then bytes else bytes_in files f) this ∙ sym is
            ∙ ap (λ (n : FileId). (changed e.event (state_of events n)).seen) name
            ∙ sym (ap (λ (b : Bool). (if b then changed e.event (state_of events f) else state_of events f).seen) here)
            ∙ sym (ap (λ (s : FileState). s.seen) (after_all-push (state_step f) (settled []) events e)),
        written f ∙ ap (λ (b : Bool). b || written_in files f) this
            ∙ sym (ap (λ (b : Bool). b || written_by events f) gives)
            ∙ sym (ap (λ (b : Bool). if b then gives_bytes e.event || written_by events f else written_by events f) here)
            ∙ sym (after_all-push (written_step f) false events e),
      )
  | inr other ↦
      let off : is_on f e.event ≡ false = on f ∙ other in (
        change f ∙ ap (λ (b : Bool). if b then bytes else bytes_in files f) other ∙ (seen f).0
            ∙ sym (ap (λ (b : Bool). (if b then changed e.event (state_of events f) else state_of events f).seen) off)
            ∙ sym (ap (λ (s : FileState). s.seen) (after_all-push (state_step f) (settled []) events e)),
        written f ∙ ap (λ (b : Bool). b || written_in files f) other ∙ (seen f).1
            ∙ sym (ap (λ (b : Bool). if b then gives_bytes e.event || written_by events f else written_by events f) off)
            ∙ sym (after_all-push (written_step f) false events e),
      )
]

-- an event on a file that leaves what a read of it gives
kept_on : (f : FileId) (e : Event) (s : FileState) → (changed e s).seen ≡ s.seen → (state_step f e s).seen ≡ s.seen
kept_on f e s same = elim (cases_Bool (is_on f e)) [
  | inl is ↦ ap (λ (b : Bool). (if b then changed e s else s).seen) is ∙ same
  | inr other ↦ ap (λ (b : Bool). (if b then changed e s else s).seen) other
]

unwritten_on : (f : FileId) (e : Event) (b : Bool) → gives_bytes e ≡ false → written_step f e b ≡ b
unwritten_on f e b none = elim (cases_Bool (is_on f e)) [
  | inl is ↦ ap (λ (x : Bool). if x then gives_bytes e || b else b) is ∙ ap (λ (x : Bool). x || b) none
  | inr other ↦ ap (λ (x : Bool). if x then gives_bytes e || b else b) other
]

pub seen_emitted : (files : List Stored) (events : List Noted) (stamp : ℕ) (bytes : Vec ℕ Global) → AreSeen files events → AreSeen files (events ++ (record { stamp = stamp; event = event.Emitted bytes }) ∷ [])
seen_emitted files events stamp bytes seen = seen_kept files events (record { stamp = stamp; event = event.Emitted bytes }) seen (λ f. refl) (λ f. refl)

pub seen_torn : (files : List Stored) (events : List Noted) (stamp : ℕ) (file : FileId) (at len : ℕ) → AreSeen files events → AreSeen files (events ++ (record { stamp = stamp; event = event.Tore file at len }) ∷ [])
seen_torn files events stamp file at len seen =
    seen_kept files events (record { stamp = stamp; event = event.Tore file at len }) seen (λ f. kept_on f (event.Tore file at len) (state_of events f) refl) (λ f. unwritten_on f (event.Tore file at len) (written_by events f) refl)

pub seen_synced : (files : List Stored) (events : List Noted) (stamp : ℕ) (file : FileId) (ok : Bool) → AreSeen files events → AreSeen files (events ++ (record { stamp = stamp; event = event.Synced file ok }) ∷ [])
seen_synced files events stamp file ok seen =
    seen_kept files events (record { stamp = stamp; event = event.Synced file ok }) seen (λ f. kept_on f (event.Synced file ok) (state_of events f) (seen-after_sync ok (state_of events f)))
    (λ f. unwritten_on f (event.Synced file ok) (written_by events f) refl)
