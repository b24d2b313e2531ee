-- A key that goes out of every keyring and every attachment: what the store tells of it.
use Rattle.std.proofs.Common.{[], ◌≡◌, ap, replicate, subst, sym, ℕ}
use Rattle.krs_model.specs.{Asks.Invalidating.invalidated, Sweep.roots, Table.{map_values, Table}}
use Rattle.krs_ctx.specs.{Anchors.Anchors, Told.anchors_without}
use Rattle.krs_keys.specs.{Keys.without_key, Table.Keys}
use Rattle.krs_keys.proofs.Unlinking.{fit-without_key, kinds-without_key, shown-without_key}
use Rattle.krs_hold.specs.Tally.{all_less, IsTallied, number_at}
use Rattle.krs_hold.proofs.Detached.{tallied_whole}
use Rattle.krs_tables.specs.{View.{IsConsistent, state_of}, declared.tables.Tables.TheInside.Inside}
use Rattle.krs_model.specs.State as model

-- the store with these parts is sound, and the key is out
pub record IsDetached (s new : Inside) (serial : ℕ) : Type 0 where
  pub sound : IsConsistent new
  pub is : state_of new ≡ invalidated (state_of s) serial

-- each of the three parts lets go of the key
abbrev pub detached_in : Inside → ℕ → Inside
detached_in s serial = record s {
  keys = record s.keys { keys = map_values (without_key serial) s.keys.keys };
  contexts = anchors_without s.contexts serial;
  holders = all_less (replicate (number_at s.holders serial) serial) s.holders;
}

detached_sound : (s : Inside) (serial : ℕ) → IsConsistent s → IsDetached s (detached_in s serial) serial
detached_sound s serial sound =
    let keys = s.keys.keys in
    let new = detached_in s serial in
    record {
      sound = record {
        fit = fit-without_key serial keys sound.fit;
        kinds = kinds-without_key serial keys sound.kinds;
        tallied =
            subst (λ (es : Table model.Key). IsTallied es (roots (state_of new)) [] new.holders)
            (sym (shown-without_key serial keys)) (tallied_whole (state_of s) serial s.holders sound.tallied);
      };
      is = ap (λ (es : Table model.Key). record (invalidated (state_of s) serial) { keys = es })
          (shown-without_key serial keys);
    }

pub detached_told :
    (s : Inside) (serial : ℕ) (keys : Keys) (anchors : Anchors) (numbers : Table ℕ) → IsConsistent s
    → keys ≡ record s.keys { keys = map_values (without_key serial) s.keys.keys }
    → anchors ≡ anchors_without s.contexts serial
    → numbers ≡ all_less (replicate (number_at s.holders serial) serial) s.holders
    → IsDetached s (record s { keys = keys; contexts = anchors; holders = numbers }) serial
detached_told s serial keys anchors numbers sound one two three = rw (one, two, three) (detached_sound s serial sound)
