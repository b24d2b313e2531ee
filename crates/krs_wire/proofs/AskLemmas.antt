-- An ask's frame is cut as that ask with its tag, and a frame that is cut is that ask's.
use Rattle.std.proofs.Common.{[], ◌++◌, ◌<◌, ◌^◌, ◌||◌, ◌∙◌, ◌∷◌, ◌≡◌, ◌≤◌, ◌⊎◌, ap, append-nil, append_assoc, arith}
use Rattle.std.proofs.Common.{Bool, cond, drop, drop_at, eqb, eqb-true, Err, false, le-ltb, length}
use Rattle.std.proofs.Common.{length-append, length-take, List, ltb, ltb-false, None, Ok, Option, refl, Result, Some}
use Rattle.std.proofs.Common.{subst, sym, take, take-append-drop, take_at, true, w16, w32, ℕ}
use Rattle.std.specs.Int.{to_le_bytes}
use Rattle.krs_types.specs.declared.ask.{Ask.Ask, Op.Op}
use Rattle.krs_wire.specs.{Bodies.{body_of_op, FitsOp, number_of_op}, Encoding.{ask_frame, ask_text, FitsAsk, framed}}
use Rattle.krs_wire.specs.{Faulting.after, Field.{both, number}, Frame.{framed_by, framed_of, Frames, front_by}}
use Rattle.krs_wire.specs.Frame.{front_in, front_of, head_fields, is_bad_length, op_of, rest, said_by}
use Rattle.krs_wire.specs.{Tag.{FitsTag, tag_field, tag_text, version_of}, declared.fault.WireFault.WireFault}
use Rattle.krs_wire.specs.declared.{fault.WireFault.TheVariants.{BadBody, BadVersion}, framed.Framed.Framed}
use Rattle.krs_wire.proofs.{CaseLemmas.{or_false, or_true}, CutLemmas.{in_made, in_parts, IsFront}}
use Rattle.krs_wire.proofs.FieldLemmas.{both_exact, IsBytes, IsBytes-take, IsExact, number_exact, wide16, wide32}
use Rattle.krs_wire.proofs.{OpLemmas.{op_again, op_small, op_takes}, TagLemmas.{tag_exact, version_is}}
use Rattle.std.proofs.lemmas.Grind.{common_steps}

head_exact : IsExact head_fields
head_exact =
    both_exact (number w16) (both (number w16) (number w32)) (number_exact w16 wide16)
    (both_exact (number w16) (number w32) (number_exact w16 wide16) (number_exact w32 wide32))

version_small : (tag : Option ℕ) → version_of tag < 256 ^ 2
version_small None = omega arith
version_small (Some tag) = omega arith

head_again : (tag : Option ℕ) (ask : Ask) → FitsAsk tag ask
    → framed_by (Some ((version_of tag, (number_of_op ask.op, ask.context)), tag_text tag ++ body_of_op ask.op))
    ≡ Ok (framed tag ask)
head_again None ask h = rw (op_again ask.op h.op) refl
head_again (Some tag) ask h = grind (arith, common_steps, tag_exact, op_again)

framed_again : (tag : Option ℕ) (ask : Ask) → FitsAsk tag ask → framed_of (ask_text tag ask) ≡ Ok (framed tag ask)
unfolding framed_of
framed_again tag ask h =
    let first =
    head_exact.again (version_of tag, (number_of_op ask.op, ask.context)) (tag_text tag ++ body_of_op ask.op)
    (version_small tag, (op_small ask.op, h.context)) in
    ap framed_by first ∙ head_again tag ask h

good_length : (n : ℕ) → 8 ≤ n → n ≤ 65536 → is_bad_length n ≡ false
good_length n low high = grind (arith, common_steps, ltb, le-ltb)

pub front_again : (tag : Option ℕ) (ask : Ask) (more : List ℕ) → FitsAsk tag ask
    → front_of (ask_frame tag ask ++ more) ≡ Ok (Some (framed tag ask, more))
unfolding front_of
front_again tag ask more h =
    let text = ask_text tag ask in
    let n = length text in
    let size = h.size in
    let low : 8 ≤ n =
    omega (
      arith,
      length-append (head_fields.encode (version_of tag, (number_of_op ask.op, ask.context)))
          (tag_text tag ++ body_of_op ask.op),
    ) in
    let first : (number w32).read (to_le_bytes w32 n ++ (text ++ more)) ≡ Some (n, text ++ more) =
    (number_exact w32 wide32).again n (text ++ more) (omega (arith, size)) in
    let front : IsFront n (text ++ more) (framed tag ask) more = record {
      good = good_length n low size;
      whole = omega (arith, length-append text more);
      says = ap framed_of (take_at text more n refl) ∙ framed_again tag ask h;
      left = drop_at text more n refl;
    } in
    ap (λ (x : List ℕ). front_by ((number w32).read x)) (append_assoc (to_le_bytes w32 n) text more)
    ∙ ap front_by first ∙ in_made n (text ++ more) (framed tag ask) more front

pub nothing_left : front_of [] ≡ Ok None
unfolding front_of
nothing_left = refl

pub one_frame : (bytes : List ℕ) (tag : Option ℕ) (ask : Ask) → FitsAsk tag ask → bytes ≡ ask_frame tag ask
    → Frames bytes (framed tag ask ∷ []) (rest [])
one_frame bytes tag ask h e =
    ([], ap front_of (e ∙ sym (append-nil (ask_frame tag ask))) ∙ front_again tag ask [] h, (nothing_left, refl))

-- ---- what is cut is encoded so
after_ok : {A B : Type 0} (f : A → Result B WireFault) (r : Result A WireFault) (y : B) → after f r ≡ Ok y
    → (x : A) × (r ≡ Ok x) × (f x ≡ Ok y)
after_ok f (Ok x) y e = (x, refl, e)
after_ok f (Err d) y e = absurd cc

abbrev said : Framed → Result Framed WireFault
said a = Ok a

said_is : (a b : Framed) → said a ≡ said b → a ≡ b
said_is a b e = cc

-- what a head, a tag and a body say
abbrev made : ℕ → Option ℕ → Op → Framed
made context tag op = record { ask = record { context = context; op = op }; tag = tag }

guard_version : {A : Type 0} (b : Bool) (x : Result A WireFault) (y : A) → cond b x (Err BadVersion) ≡ Ok y
    → (b ≡ true) × (x ≡ Ok y)
guard_version true x y e = (refl, e)
guard_version false x y e = absurd cc

head_some : (o : Option ((ℕ × (ℕ × ℕ)) × List ℕ)) (f : Framed) → framed_by o ≡ Ok f
    → (h : (ℕ × (ℕ × ℕ)) × List ℕ) × (o ≡ Some h) × ((eqb h.0.0 1 || eqb h.0.0 2) ≡ true)
    × (said_by h.0.1.0 h.0.1.1 ((tag_field (eqb h.0.0 2)).read h.1) ≡ Ok f)
head_some None f e = absurd cc
head_some (Some h) f e = grind (arith, common_steps, guard_version, eqb)

short_says : (r : Result Op WireFault) (f : Framed) → after (λ op. Err BadBody) r ≡ Ok f → ⊥
short_says (Ok op) f e = absurd cc
short_says (Err fault) f e = absurd cc

said_some : (which context : ℕ) (o : Option (Option ℕ × List ℕ)) (f : Framed) → said_by which context o ≡ Ok f
    → (x : Option ℕ × List ℕ) × (o ≡ Some x) × (after (λ op. said (made context x.0 op)) (op_of which x.1) ≡ Ok f)
said_some which context None f e = absurd (short_says (op_of which []) f e)
said_some which context (Some x) f e = (x, refl, e)

is_version : (version : ℕ) → (eqb version 1 || eqb version 2) ≡ true → (version ≡ 1) ⊎ (version ≡ 2)
is_version version e = grind (arith, common_steps, or_true, eqb, eqb-true)

-- what a frame that says this is, behind its length
record FrameTakes (frame : List ℕ) (f : Framed) : Type 0 where
  text : frame ≡ ask_text f.tag f.ask
  tagged : FitsTag f.tag
  context : f.ask.context < 256 ^ 4
  op : FitsOp f.ask.op

framed_takes : (frame : List ℕ) (f : Framed) → IsBytes frame → framed_of frame ≡ Ok f → FrameTakes frame f
unfolding framed_of
framed_takes frame f bytes e =
    let h = head_some (head_fields.read frame) f e in
    let t = head_exact.takes frame h.0.0 h.0.1 bytes h.1 in
    let version = h.0.0.0 in
    let which = h.0.0.1.0 in
    let context = h.0.0.1.1 in
    let s = said_some which context ((tag_field (eqb version 2)).read h.0.1) f h.3 in
    let tag = s.0.0 in
    let body = s.0.1 in
    let u = (tag_exact (eqb version 2)).takes h.0.1 tag body t.more_fits s.1 in
    let o = after_ok (λ op. said (made context tag op)) (op_of which body) f s.2 in
    let op = op_takes which body o.0 u.more_fits o.1 in
    let version-is : version ≡ version_of tag = version_is version tag (is_version version h.2) u.fits.0 in
    let text : frame ≡ ask_text tag (record { context = context; op = o.0 }) =
    t.parts ∙ ap (λ (more : List ℕ). head_fields.encode (version, (which, context)) ++ more) u.parts
    ∙ ap (λ (v : ℕ). head_fields.encode (v, (which, context)) ++ (tag_text tag ++ body)) version-is
    ∙ ap (λ (k : ℕ). head_fields.encode (version_of tag, (k, context)) ++ (tag_text tag ++ body)) op.number
    ∙ ap (λ (b : List ℕ). head_fields.encode (version_of tag, (number_of_op o.0, context)) ++ (tag_text tag ++ b))
    op.body-is in
    let takes : FrameTakes frame (made context tag o.0) =
    record { text = text; tagged = u.fits.1; context = t.fits.1.1; op = op.fits } in
    subst (λ (a : Framed). FrameTakes frame a) (said_is (made context tag o.0) f o.2) takes

number_some : (o : Option (ℕ × List ℕ)) (f : Framed) (more : List ℕ) → front_by o ≡ Ok (Some (f, more))
    → (x : ℕ × List ℕ) × (o ≡ Some x) × (front_in x.0 x.1 ≡ Ok (Some (f, more)))
number_some None f more e = absurd cc
number_some (Some x) f more e = (x, refl, e)

pub front_takes : (bytes : List ℕ) (f : Framed) (more : List ℕ) → IsBytes bytes → front_of bytes ≡ Ok (Some (f, more))
    → (bytes ≡ ask_frame f.tag f.ask ++ more) × FitsAsk f.tag f.ask
unfolding front_of
front_takes bytes f more fits e =
    let x = number_some ((number w32).read bytes) f more e in
    let n = x.0.0 in
    let r = x.0.1 in
    let t = (number_exact w32 wide32).takes bytes n r fits x.1 in
    let parts = in_parts n r f more x.2 in
    let a = framed_takes (take n r) f (IsBytes-take n r t.more_fits) parts.says in
    let whole-n = parts.whole in
    let text = ask_text f.tag f.ask in
    let len : length text ≡ n =
    sym (ap (λ (y : List ℕ). length y) a.text) ∙ omega (arith, length-take n r, whole-n) in
    let size : n ≤ 65536 = ltb-false 65536 n (or_false (ltb n 8) (ltb 65536 n) parts.good) in
    let rest-is : r ≡ text ++ more =
    sym (take-append-drop n r) ∙ ap (λ (y : List ℕ). y ++ drop n r) a.text
    ∙ ap (λ (y : List ℕ). text ++ y) parts.left in (
      t.parts ∙ ap (λ (y : List ℕ). to_le_bytes w32 n ++ y) rest-is
          ∙ ap (λ (k : ℕ). to_le_bytes w32 k ++ (text ++ more)) (sym len)
          ∙ sym (append_assoc (to_le_bytes w32 (length text)) text more),
      record { tagged = a.tagged; context = a.context; op = a.op; size = omega (arith, len, size) },
    )
