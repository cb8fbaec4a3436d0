-- The tests on a record, by what is not zero in it.
use Rattle.basics.proofs.Prelude.{◌≡◌, true, false, not, ◌&&◌, ◌||◌, and-true, and-false, or-true, or-false, eqb, eqb-true, test}
use Rattle.traces.specs.Trace.{Record, is_kind, uses_byte, uses_offset, uses_value, is_good}

-- what is not zero says which kinds are left
module _ (r : Record) where
  pub zeros_set : eqb r.zeros 0 ≡ false → false ≡ is_good r
  unfolding is_good
  zeros_set z = rw (z, and-false)

  module _ (z : eqb r.zeros 0 ≡ true) where
    pub value_set : eqb r.value 0 ≡ false → eqb r.kind 5 ≡ is_good r
    unfolding is_good
    value_set v = test (eqb r.kind 5) (λ f. rw (eqb-true r.kind 5 f, z)) (λ f. rw (z, v, f, and-false, and-false, and-false))

    module _ (v : eqb r.value 0 ≡ true) where
      pub offset_set : eqb r.offset 0 ≡ false → (eqb r.kind 4 || eqb r.kind 5) ≡ is_good r
      unfolding is_good
      offset_set o =
          test (eqb r.kind 4)
          (λ f. rw (eqb-true r.kind 4 f, z, v))
          (λ f. test (eqb r.kind 5) (λ g. rw (eqb-true r.kind 5 g, z)) (λ g. rw (z, v, o, f, g, and-false, and-false)))

      module _ (o : eqb r.offset 0 ≡ true) where
        pub byte_set : eqb r.byte 0 ≡ false → (is_kind r.kind && not (eqb r.kind 6)) ≡ is_good r
        unfolding is_good
        byte_set b = rw (z, v, o, b, or-true (uses_offset r.kind), or-true (uses_value r.kind), or-false, and-true)

        pub none_set : eqb r.byte 0 ≡ true → is_kind r.kind ≡ is_good r
        unfolding is_good
        none_set b = rw (z, v, o, b, or-true (uses_byte r.kind), or-true (uses_offset r.kind), or-true (uses_value r.kind), and-true)
