-- What demand 3 asks of a history beside Premises' `Admitted` and the counts of the rules' Account. Each stands here once, for the theorems of proofs/demands.
use Rattle.std.specs.Prelude.{Bool, true, false, cond, ◌||◌, List, [], ◌∷◌, ◌++◌, ◌≡◌, ℕ, suc, ◌+◌, ◌<◌, ◌≤◌, min, length}
use Rattle.basics.specs.Inputs.{on, only, as_half}
use Rattle.rules.specs.Lines.{Lines, Made}
use Rattle.rules.specs.Core.{Act, move, poll, raise, lower, clear, set_mask, set_isr, store, set_vector}
use Rattle.rules.specs.Ring.{Event, Ring, RingAct, stop, ring_run}
use Rattle.rules.specs.Device.{Device, Call, acts_of, offers, draws, step, value}
use Rattle.rules.specs.Device as call
use Rattle.rules.specs.Device.{amount}
use Rattle.rules.specs.Account.{carries, asserts_with}
use Rattle.histories.specs.Premises.{writes_isr}

-- ---- service

-- each act of a list has T
pub data Each (T : Act → Type 0) : List Act → Type 0 where
  done : Each T []
  also : {a : Act} {xs : List Act} → T a → Each T xs → Each T (a ∷ xs)

-- some act of a list has t
unfoldable pub some_act : (Act → Bool) → List Act → Bool
some_act t [] = false
some_act t (a ∷ xs) = t a || some_act t xs

-- the input n is in service: its stored ISR bit is on, masked or not
abbrev pub in_service : ℕ → Lines → Bool
in_service n l = on l.isr n

-- the input n is latched and unmasked (00, demand 3)
pub record Eligible (n : ℕ) (l : Lines) : Type 0 where
  pub latched : on l.irr n ≡ true
  pub unmasked : on l.mask n ≡ false

-- an act lowers n, clears it (CLEAR has its bit), or masks it (a half of MASK brings a 1 to its place) (00, demand 3)
abbrev pub disturbs : ℕ → Act → Bool
disturbs n (move (poll m)) = false
disturbs n (move (raise m)) = false
disturbs n (move (lower m)) = only m n
disturbs n (move (clear b)) = on b n
disturbs n (move (set_mask h v)) = on (as_half h v) n
disturbs n (set_isr h v) = false
disturbs n (store s) = false
disturbs n (set_vector m v) = false

-- a call by which n is not lowered, cleared or masked (00, demand 3)
abbrev pub Spared : ℕ → Device → Call → Type 0
Spared n d c = Each (λ a. disturbs n a ≡ false) (acts_of d.core c)

-- and which is no write that reaches the ISR registers
pub record Undisturbed (n : ℕ) (d : Device) (c : Call) : Type 0 where
  pub no_isr_write : writes_isr c ≡ false
  pub not_disturbed : Spared n d c

-- an act writes ISR (01, Window and register map)
abbrev pub sets_isr : Act → Bool
sets_isr (move m) = false
sets_isr (set_isr h v) = true
sets_isr (store s) = false
sets_isr (set_vector n v) = false

-- or MASK
abbrev pub sets_mask : Act → Bool
sets_mask (move (poll m)) = false
sets_mask (move (raise m)) = false
sets_mask (move (lower m)) = false
sets_mask (move (clear b)) = false
sets_mask (move (set_mask h v)) = true
sets_mask (set_isr h v) = false
sets_mask (store s) = false
sets_mask (set_vector n v) = false

-- a call is a poll or a raise of n (00, demand 3)
abbrev pub polls_or_raises : ℕ → Call → Bool
polls_or_raises n (call.level m true) = only n m
polls_or_raises n (call.level m false) = false
polls_or_raises n (call.poll m) = only n m
polls_or_raises n (call.read w o) = false
polls_or_raises n (call.write w o v) = false
polls_or_raises n (call.drain k) = false

-- an act is a poll or a raise of n
abbrev pub requests : ℕ → Act → Bool
requests n (move (poll m)) = only n m
requests n (move (raise m)) = only n m
requests n (move (lower m)) = false
requests n (move (clear b)) = false
requests n (move (set_mask h v)) = false
requests n (set_isr h v) = false
requests n (store s) = false
requests n (set_vector m v) = false

-- ---- a cleared input

-- an act clears n: CLEAR is written with its bit (01, Inputs: CLEAR with bits B)
abbrev pub clears : ℕ → Act → Bool
clears n (move (poll m)) = false
clears n (move (raise m)) = false
clears n (move (lower m)) = false
clears n (move (clear b)) = on b n
clears n (move (set_mask h v)) = false
clears n (set_isr h v) = false
clears n (store s) = false
clears n (set_vector m v) = false

-- an act takes the latch of n: it lowers n, or clears it (01, Inputs: lower, CLEAR)
abbrev pub takes_latch : ℕ → Act → Bool
takes_latch n (move (poll m)) = false
takes_latch n (move (raise m)) = false
takes_latch n (move (lower m)) = only m n
takes_latch n (move (clear b)) = clears n (move (clear b))
takes_latch n (move (set_mask h v)) = false
takes_latch n (set_isr h v) = false
takes_latch n (store s) = false
takes_latch n (set_vector m v) = false

-- a call of d takes it: one of its acts does
abbrev pub call_takes : ℕ → Device → Call → Bool
call_takes n d c = some_act (takes_latch n) (acts_of d.core c)

abbrev pub Untaken : ℕ → Device → Call → Type 0
Untaken n d c = call_takes n d c ≡ false

-- a call of d clears n: one of its acts does
abbrev pub Clears : ℕ → Device → Call → Type 0
Clears n d c = some_act (clears n) (acts_of d.core c) ≡ true

-- a call is a raise of n, and a call that is none
abbrev pub is_raise : ℕ → Call → Bool
is_raise n (call.level m true) = only m n
is_raise n (call.level m false) = false
is_raise n (call.poll m) = false
is_raise n (call.read w o) = false
is_raise n (call.write w o v) = false
is_raise n (call.drain k) = false

abbrev pub Unraised : ℕ → Device → Call → Type 0
Unraised n d c = is_raise n c ≡ false

-- how many asserts of the input n there are among events
abbrev pub asserts_of : ℕ → List Made → ℕ
asserts_of n = asserts_with (λ m. only n m.input)

-- where a call meets d, no other input than n carries the vector v
abbrev pub CarriedAlone : ℕ → ℕ → Device → Call → Type 0
CarriedAlone n v d c = (m : ℕ) → m < 64 → carries v d.core.vectors m ≡ true → m ≡ n

-- ---- order

-- an event as the ring holds it
abbrev pub as_event : Made → Event
as_event m = record { vector = m.vector; asserted = m.asserted }

-- the ring that an event finds: those that its call made before it have been offered (01, Inputs: in the order of making)
abbrev pub found_by : Device → List Made → Ring
found_by d earlier = (ring_run d.ring (offers earlier)).after

-- an event that finds so many waiting finds room, fewer than 16, or finds none (00, demand 3)
abbrev pub FindsRoom : ℕ → Type 0
FindsRoom k = k < 16

abbrev pub FindsNone : ℕ → Type 0
FindsNone k = 16 ≤ k

-- the ring left by a call of which an event found it full: what that event found, with it and the `rest` of its call's offers counted up to the stop (01, The ring)
abbrev pub left_full : Device → (earlier rest : List Made) → Ring
left_full d earlier rest = record { waiting = (found_by d earlier).waiting; drops = min ((found_by d earlier).drops + suc (length (offers rest))) stop }

-- all that calls do to the ring, in order: what each call offers, then what it draws
unfoldable pub ring_acts : Device → List Call → List RingAct
ring_acts d [] = []
ring_acts d (c ∷ cs) = offers (step d c).made ++ (draws c ++ ring_acts (step d c).after cs)

-- those of the events that are returned and not offered, in the order of making (01, Inputs)
unfoldable pub returned_in : List Made → List Event
returned_in [] = []
returned_in (m ∷ ms) = cond m.offered (returned_in ms) (as_event m ∷ returned_in ms)

-- ---- losses

-- the drop count has not come to its stop (02, C-15)
abbrev pub BelowStop : Device → Type 0
BelowStop d = d.ring.drops < stop

-- how many events a call says that it dropped: the value of a write; any other call says nothing of it (02, C-15)
abbrev pub loss_of : Device → Call → ℕ
loss_of d (call.level n b) = 0
loss_of d (call.poll n) = 0
loss_of d (call.read w o) = 0
loss_of d (call.write w o v) = amount (value d (call.write w o v))
loss_of d (call.drain k) = 0

-- the values of the writes among calls, each at the device that it meets, added up (02, C-15: the sum over a history)
unfoldable pub losses_in : Device → List Call → ℕ
losses_in d [] = 0
losses_in d (c ∷ cs) = loss_of d c + losses_in (step d c).after cs
