-- Rights on a key, and which of them an ask wants: keyctl(2), uapi linux/keyctl.h and the kernel's key.h.
use Rattle.std.specs.Prelude.{◌&&◌, ◌==◌, ◌||◌, bit_and, Bool, ℕ}
use Rattle.krs_types.specs.declared.rights.{Rights.Rights, Want.{Want, TheVariants.{Either, Granted, ToRead}}}

-- a key's type, description, owner and mask may be read: keyrings(7), "Access rights"
abbrev pub VIEW : Rights
VIEW = record { 0 = 1 }

-- the payload of a key, or the serials that a keyring links, may be read: keyrings(7), "Access rights"
abbrev pub READ : Rights
READ = record { 0 = 2 }

-- a payload or the links of a keyring may be changed, and the key be revoked: keyrings(7), "Access rights"
abbrev pub WRITE : Rights
WRITE = record { 0 = 4 }

-- a key may be found by a search, and a keyring may be entered by one: keyrings(7), "Access rights"
abbrev pub SEARCH : Rights
SEARCH = record { 0 = 8 }

-- a key may be linked by a keyring: keyrings(7), "Access rights"
abbrev pub LINK : Rights
LINK = record { 0 = 16 }

-- the owner, the mask and the expiry may be set, and the key be revoked: keyrings(7), "Access rights";
-- keyctl(2), KEYCTL_SETPERM
abbrev pub SETATTR : Rights
SETATTR = record { 0 = 32 }

-- these rights have all that is wanted
abbrev pub has_all : ℕ → Rights → Bool
has_all rights wanted = bit_and rights wanted.0 == wanted.0

-- these rights on a key, which is possessed or not, are what an ask wants. To read, SEARCH will do on a possessed one:
-- profile, reading by possession
abbrev pub allows : Want → ℕ → Bool → Bool
allows (Granted wanted) rights possessed = has_all rights wanted
allows (Either first second) rights possessed = has_all rights first || has_all rights second
allows ToRead rights possessed = has_all rights READ || (possessed && has_all rights SEARCH)
