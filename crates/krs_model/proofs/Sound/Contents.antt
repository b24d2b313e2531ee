-- What leaves keyrings with links, and any other key with a payload.
use Rattle.std.proofs.Common.{ap, Bool, refl, sym, ℕ, ◌∙◌, ◌≡◌}
use Rattle.krs_types.specs.{declared.kind.Kind.TheVariants.Keyring, Kind.same_kind}
use Rattle.krs_model.specs.{Linking.linked_content, Sound.{is_links, IsFitting}, State.{Content, Key, Links, Payload}}

-- a change leaves it so
abbrev pub FitStays : (Key → Key) → Type 0
FitStays f = (v : Key) → IsFitting v → IsFitting (f v)

-- a change that leaves the type, and links or a payload
pub form_stays :
    (f : Key → Key) → ((v : Key) → is_links (f v).content ≡ is_links v.content) → ((v : Key) → (f v).kind ≡ v.kind)
    → FitStays f
form_stays f form kind v fits = form v ∙ (fits ∙ ap (λ k. same_kind k Keyring) (sym (kind v)))

pub linked_form :
    (displaced : ℕ → Bool) (serial : ℕ) (content : Content)
    → is_links (linked_content displaced serial content) ≡ is_links content
linked_form displaced serial (Payload bytes) = refl
linked_form displaced serial (Links links) = refl
