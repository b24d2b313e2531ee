-- Each step of the table is one that may happen.
use Rattle.std.proofs.Common.{⊎_elim, ◌<◌, ◌∙◌, ◌≡◌, ap, arith, eq-eqb, eqb, get_or, inl, inr, length, ne_eqb, None}
use Rattle.std.proofs.Common.{Option, refl, Some, sym, ℕ}
use Rattle.atomic_table.specs.Table.{step}
use lib.ListN.{get_elem?}
use mathlib.Core.Option.{none, some}
use prog.Atomic.{either}
use Rattle.krs_model.specs.State.{State}
use Rattle.krs_desk.specs.Happening.{ExchangesHappen, IsAt, JoinsHappen, LoadsHappen, SplitsHappen, StepsHappen}
use Rattle.krs_desk.specs.Happening.{StoresHappen}
use Rattle.krs_desk.specs.{Parts.{AreOnes, both_sights, IsSpentFor, settled_sight}, Running.Board, Steps.Known}
use Rattle.krs_world.proofs.Keeping as law

is_there :
    (a : State) (s : Board) (slots id : ℕ) (m : Known) (word : ℕ) → IsAt a s slots id m word → word < length s.words
is_there a s slots id m word at =
    let wide : length s.words ≡ length s.homes = at.0.wide in
    let size : length s.homes ≡ slots = at.1 in
    let less : word < slots = at.2 in
    omega arith

one_number : (n m : ℕ) → ◌≡◌ {A = Option ℕ} (Some n) (Some m) → m ≡ n
one_number n m e = cc

nothing : (n m : ℕ) → ◌≡◌ {A = Option ℕ} None (Some n) → n ≡ m
nothing n m e = absurd cc

loads_happen : (a : State) → LoadsHappen a
loads_happen a s slots id word m w act at then = record {
  id = id;
  made = step slots word 0 0 none;
  there = is_there a s slots id m word at;
  found = Some (get_or s.words word 0);
  becomes = get_or s.words word 0;
  v = m.0;
  w = w;
  at = at.3;
  truly = λ n e. one_number (get_or s.words word 0) n e;
  left = ((λ e. e), λ _. refl);
  words = refl;
  moved = then.1;
  views = refl;
}

stores_happen : (a : State) → StoresHappen a
stores_happen a s slots id word new m w act at then = record {
  id = id;
  made = step slots word new 0 none;
  there = is_there a s slots id m word at;
  found = None;
  becomes = new;
  v = m.0;
  w = w;
  at = at.3;
  truly = λ n e. nothing n (get_or s.words word 0) e;
  left = refl;
  words = refl;
  moved = then.1;
  views = refl;
}

exchanges_happen : (a : State) → ExchangesHappen a
exchanges_happen a s slots id word old new m w act at then =
    let x : ℕ = get_or s.words word 0 in record {
      id = id;
      made = step slots word old new none;
      there = is_there a s slots id m word at;
      found = Some x;
      becomes = either (eqb x old) new x;
      v = m.0;
      w = w;
      at = at.3;
      truly = λ n e. one_number x n e;
      left = (
        (λ e. ap (λ b. either b new x) (eq-eqb x old e)),
        λ not. ap (λ b. either b new x) (ne_eqb x old not),
      );
      words = refl;
      moved = then.1;
      views = refl;
    }

splits_happen : SplitsHappen
splits_happen s id v at = record { id = id; v = v; at = at; words = refl; views = refl }

joins_happen : JoinsHappen
joins_happen s id other v w both how at apart there =
    let was : get_elem? s.views other ≡ some w = sym (law.set_else s.views id other both apart) ∙ there in
    ⊎_elim (λ (t : AreOnes v w × (both ≡ both_sights v w)). record {
      id = id;
      other = other;
      v = v;
      w = w;
      both = both;
      q = t.0.1.0;
      at = at;
      apart = apart;
      there = was;
      given = t.0.1.1;
      how = inl (t.0.0.0, t.0.0.1, t.1);
      words = refl;
      views = refl;
    }) (λ (t : IsSpentFor v w × (both ≡ settled_sight v w)). record {
      id = id;
      other = other;
      v = v;
      w = w;
      both = both;
      q = t.0.1.0;
      at = at;
      apart = apart;
      there = was;
      given = t.0.1.1;
      how = inr (t.0.0, t.1);
      words = refl;
      views = refl;
    }) how

pub steps_happen : (a : State) → StepsHappen a
steps_happen a = (loads_happen a, stores_happen a, exchanges_happen a, splits_happen, joins_happen)
