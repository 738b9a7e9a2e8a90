-- command lines that are lawful, with what they mean, and ones that are not
use Rattle.std.specs.Prelude.{◌≡◌, true, false, [], ◌∷◌, codes}
use Rattle.gr_words.specs.Meanings.{solving, checking}
use Rattle.gr_words.specs.Calls.{is_lawful}

-- what is not given has its default
abbrev pub DefaultsAreFilledIn : Type 0
DefaultsAreFilledIn = solving (codes "a" ∷ codes "b" ∷ []) ≡ record {
  cnf = codes "a";
  log = codes "b";
  reducers = 1;
  conflicts = 1000000;
  capacity = 1000;
  offer = 1000000;
  keep_all = false;
}

-- options stand anywhere, and numbers may have a sign and leading zeros
abbrev pub OptionsAreRead : Type 0
OptionsAreRead =
    solving (codes "a" ∷ codes "--keep-all" ∷ codes "--conflicts" ∷ codes "9" ∷ codes "b" ∷ codes "--offer=+007" ∷ [])
    ≡ record {
      cnf = codes "a";
      log = codes "b";
      reducers = 1;
      conflicts = 9;
      capacity = 1000;
      offer = 7;
      keep_all = true;
    }

-- behind two dashes there are no options
abbrev pub DashesEndOptions : Type 0
DashesEndOptions =
    checking (codes "--" ∷ codes "-a" ∷ codes "--b" ∷ []) ≡ record { cnf = codes "-a"; log = codes "--b" }

-- these are lawful
abbrev pub SomeAreLawful : Type 0
SomeAreLawful =
    (is_lawful (codes "solve" ∷ codes "a" ∷ codes "b" ∷ codes "--keep-all" ∷ []) ≡ true)
    × (is_lawful (codes "check" ∷ codes "a" ∷ codes "b" ∷ []) ≡ true)
    × (is_lawful (codes "large" ∷ codes "odd_ring" ∷ codes "5" ∷ []) ≡ true)

-- and these are not
abbrev pub OthersAreNot : Type 0
OthersAreNot =
    (is_lawful [] ≡ false)
    × (is_lawful (codes "solve" ∷ codes "a" ∷ []) ≡ false)
    × (is_lawful (codes "solve" ∷ codes "a" ∷ codes "b" ∷ codes "--reducers" ∷ codes "9" ∷ []) ≡ false)
    × (is_lawful (codes "solve" ∷ codes "a" ∷ codes "b" ∷ codes "--fast" ∷ codes "1" ∷ []) ≡ false)
    × (is_lawful (codes "solve" ∷ codes "a" ∷ codes "b" ∷ codes "--keep-all" ∷ codes "--keep-all" ∷ []) ≡ false)
    × (is_lawful (codes "audit" ∷ []) ≡ false)
    × (is_lawful (codes "large" ∷ codes "ring" ∷ codes "5" ∷ []) ≡ false)
    × (is_lawful (codes "large" ∷ codes "odd_ring" ∷ codes "4" ∷ []) ≡ false)
    × (is_lawful (codes "large" ∷ codes "pigeons" ∷ codes "51" ∷ []) ≡ false)
