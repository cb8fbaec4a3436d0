-- 01, How tight the promises are: 'Each public call's promise settles its number, its value and every byte of image, answer area and event buffer
-- afterwards, on any input, refused or done. Show that no second outcome satisfies it.' The value stands in the answer area.
use Rattle.basics.proofs.Prelude.{◌≡◌, refl, sym, ap, ◌∙◌, List, [], ℕ}
use Rattle.calls.specs.Calls.{Request, reset, read, write, level, poll, drain, Outcome, leaves, outcome, Promised}
use Rattle.calls.specs.Waiting.{waiting}

-- The contract of an exported call is one equation: x, the number and the bytes that it leaves, is `outcome` of what it is asked, the image and the answer
-- area at entry. That is the promise, no more and no less.
pub contract_is_promise : (q : Request) (image answer : List ℕ) (x : Outcome)
    → (x ≡ outcome q image answer → Promised q image answer x) × (Promised q image answer x → x ≡ outcome q image answer)
contract_is_promise q image answer x = (
  (λ e. record {
    number = ap (λ (o : Outcome). o.number) e;
    image = ap (λ (o : Outcome). o.image) e;
    answer = ap (λ (o : Outcome). o.answer) e;
    events = ap (λ (o : Outcome). o.events) e;
  }),
  (λ p i. record { number = p.number i; image = p.image i; answer = p.answer i; events = p.events i }),
)

-- whatever is asked, of any image and any answer area: two outcomes that keep the promise are one
pub one_outcome : (q : Request) (image answer : List ℕ) (x y : Outcome) → Promised q image answer x → Promised q image answer y → x ≡ y
one_outcome q image answer x y p r = (contract_is_promise q image answer x).1 p ∙ sym ((contract_is_promise q image answer y).1 r)

-- and one does
pub some_outcome : (q : Request) (image answer : List ℕ) → Promised q image answer (outcome q image answer)
some_outcome q image answer = (contract_is_promise q image answer (outcome q image answer)).0 refl

-- in the contracts' own words, of whichever call that leaves x: of two runs whose contract holds, the numbers handed back, the images, the answer areas and the event buffers are the same
pub one_left : {x : Outcome} {r s : ℕ} {i j a b e g : List ℕ} → leaves r i a e ≡ x → leaves s j b g ≡ x → (r ≡ s) × (i ≡ j) × (a ≡ b) × (e ≡ g)
one_left p q =
    let same = p ∙ sym q in
    (ap (λ (o : Outcome). o.number) same, ap (λ (o : Outcome). o.image) same, ap (λ (o : Outcome). o.answer) same, ap (λ (o : Outcome). o.events) same)

pub one_result : (q : Request) (image answer : List ℕ) (r s : ℕ) (i j a b e g : List ℕ) → leaves r i a e ≡ outcome q image answer
    → leaves s j b g ≡ outcome q image answer → (r ≡ s) × (i ≡ j) × (a ≡ b) × (e ≡ g)
one_result q image answer r s i j a b e g x y = one_left x y

-- and of the call that tells who waits
pub one_waiting : (image answer : List ℕ) {r s : ℕ} {i j a b : List ℕ} → leaves r i a [] ≡ waiting image answer → leaves s j b [] ≡ waiting image answer → (r ≡ s) × (i ≡ j) × (a ≡ b)
one_waiting image answer x y = let o = one_left x y in (o.0, o.1, o.2)

-- so of each of the six calls, with any numbers, and of a drain with any event buffer
abbrev Once : Request → Type 0
Once q = (image answer : List ℕ) (x y : Outcome) → Promised q image answer x → Promised q image answer y → x ≡ y

pub one_reset : Once reset
one_reset = one_outcome reset

pub one_read : (base size address width : ℕ) → Once (read base size address width)
one_read base size address width = one_outcome (read base size address width)

pub one_write : (base size address width value : ℕ) → Once (write base size address width value)
one_write base size address width value = one_outcome (write base size address width value)

pub one_level : (input value : ℕ) → Once (level input value)
one_level input value = one_outcome (level input value)

pub one_poll : (input : ℕ) → Once (poll input)
one_poll input = one_outcome (poll input)

pub one_drain : (events : List ℕ) (place : ℕ) → Once (drain events place)
one_drain events place = one_outcome (drain events place)
