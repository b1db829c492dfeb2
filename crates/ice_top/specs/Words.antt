-- The words of the command line, and the call that they say.
use Rattle.std.specs.Prelude.{◌≡◌, ◌⊎◌, ℕ, Bool, true, false, List, [], ◌∷◌, ◌++◌, map, codes, string_bytes}
use Rattle.std.specs.declared.alloc.Global.{Global}
use Rattle.std.specs.declared.string.String.{String}
use Rattle.part_spec.specs.declared.part.Part.{Part}
use Rattle.part_spec.specs.declared.part.Part.TheVariants.{M16, M32}
use Rattle.ice_top.specs.Stops.{IsNumber, number_of, IsStops, numbers_of}

-- what a call does: a session over a debug line, or one of a script, on the image with a name, with numbers of steps; the listing of a
-- line; the session that is made from a seed, with so many commands; the listing of the program of the image with a name; the check of a
-- session record of that program; the assembly of a text; a session with a client over a port, on the image with a name; or the shell over a port
pub data Form : Type 0 where
  replay : (image stops : List ℕ) → Form
  script : (image stops : List ℕ) → Form
  frames : Form
  gen : (seed count : ℕ) → Form
  listing : (image : List ℕ) → Form
  verifying : (image : List ℕ) → Form
  assembling : Form
  serving : (port : ℕ) (image : List ℕ) → Form
  connecting : (port : ℕ) → Form

-- the words are a command and IMAGE STOPS, with these numbers in STOPS
pub record IsRun (command : List ℕ) (words : List (List ℕ)) (image stops : List ℕ) : Type 0 where
  pub text : List ℕ
  pub form : words ≡ command ∷ image ∷ text ∷ []
  pub valid : IsStops text
  pub numbers : stops ≡ numbers_of text

-- the words are `gen SEED COUNT`
pub record IsGen (words : List (List ℕ)) (seed count : ℕ) : Type 0 where
  pub seed_text : List ℕ
  pub count_text : List ℕ
  pub form : words ≡ codes "gen" ∷ seed_text ∷ count_text ∷ []
  pub valid_seed : IsNumber 0 4294967295 seed_text
  pub valid_count : IsNumber 0 100000 count_text
  pub is_seed : seed ≡ number_of seed_text
  pub is_count : count ≡ number_of count_text

-- the words are a command and IMAGE
abbrev pub IsOnImage : (command : List ℕ) (words : List (List ℕ)) (image : List ℕ) → Type 0
IsOnImage command words image = words ≡ command ∷ image ∷ []

-- a port: a number from 1 to 65535
abbrev pub IsPort : (text : List ℕ) → ℕ → Type 0
IsPort text port = IsNumber 1 65535 text × (port ≡ number_of text)

-- the words are `serve PORT IMAGE`
pub record IsServe (words : List (List ℕ)) (port : ℕ) (image : List ℕ) : Type 0 where
  pub text : List ℕ
  pub form : words ≡ codes "serve" ∷ text ∷ image ∷ []
  pub valid : IsPort text port

-- the words are `connect PORT`
pub record IsConnect (words : List (List ℕ)) (port : ℕ) : Type 0 where
  pub text : List ℕ
  pub form : words ≡ codes "connect" ∷ text ∷ []
  pub valid : IsPort text port

-- the words have a form, with no part behind it
abbrev pub HasForm : List (List ℕ) → Form → Type 0
HasForm words (replay image stops) = IsRun (codes "replay") words image stops
HasForm words (script image stops) = IsRun (codes "script") words image stops
HasForm words frames = words ≡ codes "frames" ∷ []
HasForm words (gen seed count) = IsGen words seed count
HasForm words (listing image) = IsOnImage (codes "list") words image
HasForm words (verifying image) = IsOnImage (codes "verify") words image
HasForm words assembling = words ≡ codes "asm" ∷ []
HasForm words (serving port image) = IsServe words port image
HasForm words (connecting port) = IsConnect words port

-- the words have no form
abbrev pub HasNoForm : List (List ℕ) → Type 0
HasNoForm words = (form : Form) → HasForm words form → ⊥

-- the form may have a part behind it
abbrev pub takes_part : Form → Bool
takes_part (replay image stops) = true
takes_part (script image stops) = true
takes_part frames = false
takes_part (gen seed count) = false
takes_part (listing image) = true
takes_part (verifying image) = true
takes_part assembling = true
takes_part (serving port image) = true
takes_part (connecting port) = false

-- the word for a part
abbrev pub word_of : Part → List ℕ
word_of M16 = codes "m16"
word_of M32 = codes "m32"

-- the word is for no part
abbrev pub IsForNone : List ℕ → Type 0
IsForNone word = (part : Part) → word ≡ word_of part → ⊥

-- the last word is that for a part, and the words before it have a form that takes one
pub record Names (words : List (List ℕ)) (form : Form) (part : Part) : Type 0 where
  pub front : List (List ℕ)
  pub last : words ≡ front ++ word_of part ∷ []
  pub whole : HasForm front form
  pub takes : takes_part form ≡ true

-- the words name a part
abbrev pub NamesPart : List (List ℕ) → Part → Type 0
NamesPart words part = (form : Form) × Names words form part

-- and name none
abbrev pub NamesNone : List (List ℕ) → Type 0
NamesNone words = (part : Part) → NamesPart words part → ⊥

-- the words say a call for a part: the one that they name, or the ATmega16 where they name none
abbrev pub Says : List (List ℕ) → Form → Part → Type 0
Says words form part = (HasForm words form × (part ≡ M16)) ⊎ Names words form part

-- the words say no call
abbrev pub SaysNone : List (List ℕ) → Type 0
SaysNone words = (form : Form) (part : Part) → Says words form part → ⊥

-- the call is one of `ice2`; the others are of `ice2_serve` and `ice2_connect`
abbrev pub is_local : Form → Bool
is_local (replay image stops) = true
is_local (script image stops) = true
is_local frames = true
is_local (gen seed count) = true
is_local (listing image) = true
is_local (verifying image) = true
is_local assembling = true
is_local (serving port image) = false
is_local (connecting port) = false

-- the words say no call of `ice2`
abbrev pub SaysNoneLocal : List (List ℕ) → Type 0
SaysNoneLocal words = (form : Form) (part : Part) → Says words form part → is_local form ≡ true → ⊥

-- no assembly of a text
abbrev pub SaysNoText : List (List ℕ) → Type 0
SaysNoText words = (part : Part) → Says words assembling part → ⊥

-- no session with a client
abbrev pub SaysNoServe : List (List ℕ) → Type 0
SaysNoServe words = (port : ℕ) (image : List ℕ) (part : Part) → Says words (serving port image) part → ⊥

-- no shell over a port
abbrev pub SaysNoConnect : List (List ℕ) → Type 0
SaysNoConnect words = (port : ℕ) (part : Part) → Says words (connecting port) part → ⊥

-- each call that the words say is for the part
abbrev pub SaysFor : List (List ℕ) → Part → Type 0
SaysFor words part = (form : Form) (said : Part) → Says words form said → said ≡ part

-- the words as texts
abbrev pub texts : List (String Global) → List (List ℕ)
texts words = map (λ word. string_bytes word) words
