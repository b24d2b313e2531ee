-- A tag is exact: what is read is encoded so, and what is encoded is read.
use Rattle.std.proofs.Common.{◌++◌, ◌==◌, ◌∙◌, ◌≡◌, ◌⊎◌, ap, Bool, false, inl, inr, is_some, length, List, None, Option}
use Rattle.std.proofs.Common.{arith, option_and_then, refl, Some, subst, true, w64, ℕ}
use Rattle.krs_wire.specs.{Field.number, Tag.{tag_field, tag_size, tag_text, version_of}}
use Rattle.krs_wire.proofs.FieldLemmas.{bind_some, done, IsBytes, IsExact, number_exact, some_is, Takes, wide64}
use Rattle.std.proofs.lemmas.Grind.{common_steps}

number64_exact : IsExact (number w64)
number64_exact = number_exact w64 wide64

tag_takes : (bytes : List ℕ) (tag : Option ℕ) (more : List ℕ) → IsBytes bytes
    → (tag_field true).read bytes ≡ Some (tag, more) → Takes (tag_field true) bytes tag more
tag_takes bytes tag more fits e =
    let b = bind_some ((number w64).read bytes) (λ n. Some (done n.0, n.1)) (tag, more) e in
    let t = number64_exact.takes bytes b.0.0 b.0.1 fits b.1 in
    let made : Takes (tag_field true) bytes (done b.0.0) b.0.1 =
    record { parts = t.parts; fits = (refl, t.fits); more_fits = t.more_fits } in
    subst (λ (p : Option ℕ × List ℕ). Takes (tag_field true) bytes p.0 p.1)
    (some_is (done b.0.0, b.0.1) (tag, more) b.2) made

tag_again : (tag : Option ℕ) (more : List ℕ) → (tag_field true).Fits tag
    → (tag_field true).read (tag_text tag ++ more) ≡ Some (tag, more)
tag_again None more h = absurd (cc h.0)
tag_again (Some tag) more h = grind (arith, common_steps, option_and_then, done)

none_takes : (bytes : List ℕ) (tag : Option ℕ) (more : List ℕ) → IsBytes bytes
    → (tag_field false).read bytes ≡ Some (tag, more) → Takes (tag_field false) bytes tag more
none_takes bytes tag more fits e = grind (arith, common_steps, some_is)

none_again : (tag : Option ℕ) (more : List ℕ) → (tag_field false).Fits tag
    → (tag_field false).read (tag_text tag ++ more) ≡ Some (tag, more)
none_again None more h = refl
none_again (Some tag) more h = absurd (cc h.0)

pub tag_exact : (is_tagged : Bool) → IsExact (tag_field is_tagged)
tag_exact true = record { takes = tag_takes; again = tag_again }
tag_exact false = record { takes = none_takes; again = none_again }

pub tag_length : (is_tagged : Bool) (tag : Option ℕ) → is_some tag ≡ is_tagged
    → length (tag_text tag) ≡ tag_size is_tagged
tag_length true None h = absurd (cc h)
tag_length true (Some tag) h = refl
tag_length false None h = refl
tag_length false (Some tag) h = absurd (cc h)

-- a version that has a tag where there is one is the version of frames with that tag
pub version_is : (version : ℕ) (tag : Option ℕ) → (version ≡ 1) ⊎ (version ≡ 2) → is_some tag ≡ (version == 2)
    → version ≡ version_of tag
version_is version None (inl one) h = one
version_is version (Some tag) (inr two) h = two
version_is version None (inr two) h =
    let no : false ≡ (2 == 2) = h ∙ ap (λ (v : ℕ). v == 2) two in absurd (cc no)
version_is version (Some tag) (inl one) h =
    let no : true ≡ (1 == 2) = h ∙ ap (λ (v : ℕ). v == 2) one in absurd (cc no)
