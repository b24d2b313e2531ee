-- What is proved of GET_ID.
use Rattle.std.proofs.Common.{◌≡◌, Bool, false, inl, Ok, refl, true, ℕ, ℤ}
use Rattle.krs_types.specs.declared.{ask.Op.{Op, TheVariants.GetId}, context.Context.Context}
use Rattle.krs_types.specs.{declared.rights.Want.TheVariants.Granted, Rights.SEARCH}
use Rattle.krs_model.specs.{Asks.Finding.{get_id, made_where}, Confidentiality.HasToItself, Hiding.{blind, Hiding}}
use Rattle.krs_model.specs.{Lookup.{context_of, look_up}, State.State}
use Rattle.krs_model.proofs.Asks.{Fares.fares_within, Houses.{HousesIn, made_houses, Same}, Later.{Comes, same_comes}}
use Rattle.krs_model.proofs.Asks.{LaterByAsk.made_for_comes, Lawful.IsLawful, Outcomes.{meets_after, meets_ok}}
use Rattle.krs_model.proofs.{Asks.Plain.plains, Hiding.{Accepted.blind_done, Links.{blind_made, made_blind}}}
use Rattle.krs_model.proofs.{Hiding.Seen.{is_seen, steps}, Isolation.{Guarded.alone_guarded, Links.made_alone}}
use Rattle.krs_model.proofs.{Isolation.Untouched.{AreSame, made_same}, Sound.Changes.Stands}
use Rattle.krs_model.proofs.Sound.NewContexts.{made_for_stands}

made_where_comes :
    (create : Bool) (s : State) (number : ℕ) (c : Context) (id : ℤ) → Comes s (made_where create s number c id).0
made_where_comes true s number c id = made_for_comes s number c id
made_where_comes false s number c id = same_comes s s refl refl refl refl

where_houses :
    (create : Bool) (s : State) (client number : ℕ) (op : Op) (c : Context) (id : ℤ)
    → context_of s client number ≡ Ok c → HousesIn s client number op (made_where create s number c id).0
where_houses true s client number op c id own = made_houses s client number op c id own
where_houses false s client number op c id own = Same

made_where_stands :
    (create : Bool) (s : State) (number : ℕ) (c : Context) (id : ℤ) → Stands s
    → Stands (made_where create s number c id).0
made_where_stands true s number c id stands = made_for_stands s number c id stands
made_where_stands false s number c id stands = stands

where_blind : (hide : Hiding) (wanted : Bool) (s : State) (number : ℕ) (c : Context) (id : ℤ)
    → made_where wanted (blind hide s) number c id ≡ blind_made hide (made_where wanted s number c id)
where_blind hide true s number c id = made_blind hide s number c id
where_blind hide false s number c id = refl

made_where_alone :
    (uid : ℕ) (private : ℕ → Bool) (create : Bool) (s : State) (number : ℕ) (c : Context) (id : ℤ)
    → HasToItself uid private s
    → HasToItself uid private (made_where create s number c id).0
made_where_alone uid private true s number c id alone = made_alone uid private s number c id alone
made_where_alone uid private false s number c id alone = alone

where_same :
    (uid : ℕ) (private : ℕ → Bool) (create : Bool) (s : State) (number : ℕ) (c : Context) (id : ℤ)
    → HasToItself uid private s → AreSame private s.keys (made_where create s number c id).0.keys
where_same uid private true s number c id alone = made_same uid private s number c id alone
where_same uid private false s number c id alone = λ k m. refl

pub get_id_law : (s : State) (client context : ℕ) (id : ℤ) (create : Bool) → IsLawful s client context (GetId id create)
unfolding get_id
get_id_law s client context id create = record {
  small = λ mid answer few h. tt;
  plain = search plains depth 12;
  blind = λ hide hides. is_seen (blind_done hide) (simp where_blind (search steps depth 12));
  fares =
      meets_after (context_of s client context) _ (λ c own.
      let made = made_where create s context c id in
      fares_within s _ (meets_after (look_up made.0 made.1 id (Granted SEARCH)) _ (λ key _.
      meets_ok (λ within. record {
        comes = λ other. made_where_comes create s context c id;
        counts = λ placed. within;
        houses = where_houses create s client context (GetId id create) c id own;
        stands = λ stands. made_where_stands create s context c id stands;
        guards = λ uid private stands alone.
            alone_guarded uid private _ made.0 (made_where_alone uid private create s context c id alone);
        keeps = λ uid private stands alone other. inl (where_same uid private create s context c id alone);
      }))));
}
