-- What the tests of an image find, as the refusal of a call on it; or that it is accepted.
use Rattle.std.proofs.Common.{Ok, Err}
use Rattle.basics.proofs.Prelude.{◌≡◌, sym, ap, ◌∙◌, true, false≢true, List, ℕ, length, Bytes}
use Rattle.images.specs.{Form.form_length, Image.accepted}
use Rattle.calls.specs.Calls.{image_number, image_value}
use Rattle.image.specs.{Shown.form_view, head.Good.Headed, head.Good.is_accepted, bodies.Good.bodies_good, bodies.Good.bodies_test, faults.Found.checked_view}
use Rattle.image.specs.declared.{head.HeadFault.HeadFault, head.HeadFault.TheVariants.WrongLength, head.HeadFault.TheVariants.WrongContents, faults.Broken.Broken}
use Rattle.image.proofs.{head.Orders.head_refuses, head.Orders.sized, bodies.Orders.accepts}
use Rattle.image.proofs.bodies.Orders as orders
use Rattle.fields.specs.inplace.Passed.{Passed}
use Rattle.answer.specs.{Given.Refuses, Given.of_head, declared.refusals.Refusal.TheVariants.Body}
use Rattle.image.specs.declared.form.Form as code

-- 4 and 5: by its length or its contents
pub by_head : (i : List ℕ) (e : HeadFault) → Headed (Err e) i → Refuses (of_head e) i
by_head i WrongLength h = record { not = head_refuses i WrongLength h; number = ap image_number h; value = ap image_value h }
by_head i WrongContents h = record { not = head_refuses i WrongContents h; number = ap image_number h; value = ap image_value h }

module _ (i : List ℕ) (f : code.Form) (o : Headed (Ok f) i) where
  pub fitting : length i ≡ form_length (form_view f)
  fitting = sized i (form_view f) o.0

  -- 8 to 11: by the first rule that a body breaks
  pub by_bodies : (b : Broken) → checked_view (Err b) ≡ bodies_test (form_view f) i → Refuses (Body b) i
  by_bodies b e =
      let w = e ∙ orders.by_bodies i (form_view f) o.0 o.1 in
      record { not = λ z. false≢true (ap is_accepted (w ∙ z)); number = ap image_number w; value = ap image_value w }

  -- no rule is broken, by the test of the bodies or by the search for what is wrong in them
  pub by_test : Bytes i → bodies_good (form_view f) i ≡ true → Passed (form_view f) i
  by_test y g = record { bytes = y; good = accepts i (form_view f) o.0 o.1 g; known = o.0 }

  pub by_search : Bytes i → accepted ≡ bodies_test (form_view f) i → Passed (form_view f) i
  by_search y e = record { bytes = y; good = sym (e ∙ orders.by_bodies i (form_view f) o.0 o.1); known = o.0 }
