-- Events of conversations that are not open, and events that are not answered.
use Rattle.std.proofs.Common.{◌≡◌, ◌+◌, ◌<◌, ◌^◌, ℕ, List, [], ◌∷◌, ◌++◌, Option, Some, None, Result, Ok, Err, slice_get, refl, sym, ap, subst, append-nil, inl, inr}
use Rattle.std.specs.Prelude.{OnErr, OnOk}
use Rattle.durable_core.specs.declared.checkpointing.Checkpointed.{Checkpointed}
use Rattle.conversation.specs.declared.fed.Heard.{Heard}
use Rattle.conversation.specs.declared.fed.Heard.TheVariants.{Closed, NoMemory, Open}
use Rattle.drda_node.specs.Machine.{Conversation, IsOpen, Machine, lost, opened}
use Rattle.drda_node.specs.Hearing.{HearsAt, HearsPiece}
use Rattle.drda_node.specs.Records.{Event, checkpoints, loses, opens, record_text, sends}
use Rattle.drda_node.specs.declared.event.Head.{Head}
use Rattle.drda_node.specs.Happening.{BreaksOff, Happens, IsCheckpointed, LosesAt, OpensAt, SendsAt, SendsPart, code_of, refusal}

pub ok_so : {X E A B : Type 0} (r : Result X E) → (A → B) → OnOk r A → OnOk r B
ok_so (Ok x) f p = f p
ok_so (Err e) f p = p

pub no_loss : (o : Option (Option Conversation)) (machine : Machine) (number : ℕ) (written : List ℕ) → ((c : Conversation) → o ≡ Some (Some c) → ⊥) → written ≡ refusal number 2 → LosesAt o machine number written machine
no_loss None machine number written none e = (e, refl)
no_loss (Some None) machine number written none e = (e, refl)
no_loss (Some (Some c)) machine number written none e = absurd (none c refl)

pub no_bytes_taken : (o : Option (Option Conversation)) (machine : Machine) (number : ℕ) (bytes written : List ℕ) → ((c : Conversation) → o ≡ Some (Some c) → ⊥) → written ≡ refusal number 2 → SendsAt o machine number bytes written machine
no_bytes_taken None machine number bytes written none e = (e, refl)
no_bytes_taken (Some None) machine number bytes written none e = (e, refl)
no_bytes_taken (Some (Some c)) machine number bytes written none e = absurd (none c refl)

-- ---- events that are not answered, as memory was refused

pub err_so : {X E A : Type 0} (r : Result X E) → A → OnErr r A
err_so (Ok x) a = tt
err_so (Err e) a = a

pub opened_anyway : (machine new : Machine) (number : ℕ) → slice_get machine.row number ≡ Some None → machine.given + 1 < 2 ^ 64 → new ≡ opened machine number → BreaksOff machine (opens number) new
opened_anyway machine new number free left row =
    inr (inl (record_text 1 number [], subst (λ (o : Option (Option Conversation)). OpensAt o machine number (record_text 1 number []) new) (sym free) (inl (left, refl, row))))

pub lost_anyway : (machine new : Machine) (number : ℕ) → IsOpen machine number → new ≡ lost machine number → BreaksOff machine (loses number) new
lost_anyway machine new number (there, is) row =
    inr (inl (record_text 3 number [], subst (λ (o : Option (Option Conversation)). LosesAt o machine number (record_text 3 number []) new) (sym is) (refl, row)))

pub checkpointed_anyway : (machine new : Machine) (number : ℕ) (told : Checkpointed) → IsCheckpointed told machine.core new.core → new ≡ record machine { core = new.core } → BreaksOff machine (checkpoints number) new
checkpointed_anyway machine new number told is rest =
    inr (inl (record_text 4 number (code_of told ∷ []), record { told = told; core = new.core; is_checkpointed = is; written_is = refl; rest = rest }))

pub heard_anyway : (heard : Heard) (machine new : Machine) (number : ℕ) (bytes out out' : List ℕ) → HearsPiece machine number bytes out heard new out' → BreaksOff machine (sends number bytes) new
heard_anyway Open machine new number bytes out out' h = inr (inr (bytes, [], h.replies, h.after, sym (append-nil bytes), h.hears))
heard_anyway Closed machine new number bytes out out' h =
    inr (inr (bytes, [], h.replies, h.after, sym (append-nil bytes), subst (λ (z : List ℕ). HearsAt machine number z h.replies h.after new) (append-nil bytes) (h.hears [])))
heard_anyway NoMemory machine new number bytes out out' h = inr (inr (h.heard, h.rest, h.replies ++ h.unsaid, h.after, h.parts, h.hears))

-- ---- what a node was started with stays

opens_keep : (o : Option (Option Conversation)) (machine new : Machine) (number : ℕ) (written : List ℕ) → OpensAt o machine number written new → new.settings ≡ machine.settings
opens_keep None machine new number written h = ap (λ (m : Machine). m.settings) h.1
opens_keep (Some (Some c)) machine new number written h = ap (λ (m : Machine). m.settings) h.1
opens_keep (Some None) machine new number written (inl h) = ap (λ (m : Machine). m.settings) h.2
opens_keep (Some None) machine new number written (inr h) = ap (λ (m : Machine). m.settings) h.2

sends_keep : (o : Option (Option Conversation)) (machine new : Machine) (number : ℕ) (bytes written : List ℕ) → SendsAt o machine number bytes written new → new.settings ≡ machine.settings
sends_keep None machine new number bytes written h = ap (λ (m : Machine). m.settings) h.1
sends_keep (Some None) machine new number bytes written h = ap (λ (m : Machine). m.settings) h.1
sends_keep (Some (Some c)) machine new number bytes written h = ap (λ (m : Machine). m.settings) h.row

loses_keep : (o : Option (Option Conversation)) (machine new : Machine) (number : ℕ) (written : List ℕ) → LosesAt o machine number written new → new.settings ≡ machine.settings
loses_keep None machine new number written h = ap (λ (m : Machine). m.settings) h.1
loses_keep (Some None) machine new number written h = ap (λ (m : Machine). m.settings) h.1
loses_keep (Some (Some c)) machine new number written h = ap (λ (m : Machine). m.settings) h.1

pub events_keep : (machine new : Machine) (event : Event) (written : List ℕ) → Happens machine event written new → new.settings ≡ machine.settings
events_keep machine new (opens number) written h = opens_keep (slice_get machine.row number) machine new number written h
events_keep machine new (sends number bytes) written h = sends_keep (slice_get machine.row number) machine new number bytes written h
events_keep machine new (loses number) written h = loses_keep (slice_get machine.row number) machine new number written h
events_keep machine new (checkpoints number) written h = ap (λ (m : Machine). m.settings) h.rest

part_keeps : (machine new : Machine) (event : Event) → SendsPart machine event new → new.settings ≡ machine.settings
part_keeps machine new (opens number) h = absurd h
part_keeps machine new (sends number bytes) h = ap (λ (m : Machine). m.settings) h.5.row
part_keeps machine new (loses number) h = absurd h
part_keeps machine new (checkpoints number) h = absurd h

pub broken_keep : (machine new : Machine) (event : Event) → BreaksOff machine event new → new.settings ≡ machine.settings
broken_keep machine new event (inl same) = ap (λ (m : Machine). m.settings) same
broken_keep machine new event (inr (inl (written, h))) = events_keep machine new event written h
broken_keep machine new event (inr (inr h)) = part_keeps machine new event h

-- only a checkpoint is told as one
pub tells_at : {X E : Type 0} (r : Result X E) (P : Head → Type 0) (head at : Head) → head ≡ at → P at → OnOk r (P head)
tells_at (Ok x) P head at is p = subst P (sym is) p
tells_at (Err e) P head at is p = tt
