use Rattle.std.proofs.Common.{◌+◌, ◌<◌, ◌∙◌, ◌∷◌, ◌≡◌, add-one, arith, drop, length, List, Option, refl, slice_get}
use Rattle.std.proofs.{Common.{Some, sym, ℕ}, Math.Seq.drop-cons, lemmas.List.length-map}
use Rattle.std.proofs.lemmas.Option.{get_or_from_slice_get, none-some, slice_get-get_or, slice_get_within}
use Rattle.krs_model.specs.Table.{Table}
use Rattle.krs_links.specs.Links.{serials}
use Rattle.krs_keys.specs.Hashed.{by_serial}
use Rattle.krs_hold.specs.{Chain.{Chained, gone, gone_all}, declared.counts.Count.Count}
use Rattle.krs_hold.proofs.counts.let_go_all.Goals.{in-Some, in_default}
use Rattle.krs_hold.proofs.counts.let_go_all.Goals as goal
use Rattle.std.proofs.lemmas.Grind.{common_steps}

-- what is left from a place on begins with what stands there
next_left : (xs : List ℕ) (i x : ℕ) → slice_get xs i ≡ Some x → drop i xs ≡ x ∷ drop (i + 1) xs
next_left xs i x h =
    rw (add-one, drop-cons xs i 0 (slice_get_within xs i x h), get_or_from_slice_get xs i x 0 h) refl

-- and the next holder goes first
passed : (t u v : Chained) (xs : List ℕ) (i x : ℕ) → slice_get xs i ≡ Some x → gone_all t (drop i xs) ≡ v
    → u ≡ gone t x → gone_all u (drop (i + 1) xs) ≡ v
passed t u v xs i x h was is = grind (arith, common_steps, next_left)

abbrev chain_of : Table Count → Option ℕ → Chained
chain_of a x = record { counts = a; first = x }

same_chain : (a b : Table Count) (x y : Option ℕ) → a ≡ b → x ≡ y → chain_of a x ≡ chain_of b y
same_chain a b x y e f = cc

pub loop-place-preserved : goal.loop-place-preserved
loop-place-preserved c =
    let all = serials c.args.links.now in
    elim c.match-serial_at.branch [
      | in-Some w ↦
          let k = w.in-Some.serial in
          let here : slice_get all c.loop-place.place ≡ Some k = sym c.serial_at.ensures ∙ w.in-Some.is in
          passed (record { counts = by_serial c.loop-place.counts.entries; first = c.loop-place.first })
          (record { counts = by_serial c.match-serial_at.counts.entries; first = c.match-serial_at.first })
          _ all c.loop-place.place k here c.loop-place.invariant
          (same_chain _ _ _ _ (cc)
          (cc))
      | in_default w ↦
          let within : c.loop-place.place < length all =
          simp length-map (omega (arith, c.len-place-end.ensures.len, c.loop-place-test.true)) in
          absurd (none-some _
          (sym w.in_default.is ∙ (c.serial_at.ensures ∙ slice_get-get_or all c.loop-place.place 0 within)))
    ]
