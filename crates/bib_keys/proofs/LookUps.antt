-- Whether a look-up found something.
use Rattle.bib_keys.proofs.Words.{◌≡◌, Option, Some, None, is_some, refl, Bor, option_copied}

-- what is found is there, copied or not
pub copied-some : {X : Type 0} (o : Option (Bor X)) → is_some (option_copied o) ≡ is_some o
copied-some None = refl
copied-some (Some x) = refl
