-- The text and the status for an error.
use Rattle.std.proofs.Common.{◌≡◌, ◌⊎◌, List, true, refl, inl, inr}
use Rattle.clap.specs.Words.{Text, HasKind, fault_of, kind_of, is_simple_and_free}
use Rattle.clap.specs.declared.error.Error.{Error}
use Rattle.clap.specs.declared.error.ErrorKind.{ErrorKind}
use Rattle.clap.specs.declared.error.ErrorKind.TheVariants.{OutOfMemory}
use Rattle.clap.proofs.OnLiterals.{clap_on_literals}
use Rattle.bib_command.specs.declared.usages.Usage.{Usage}
use Rattle.bib_command.specs.CommandLine.{bibkeep}
use Rattle.bib_command.specs.Usage as spec
use Rattle.bib_command.specs.Usage.{no_memory, MatchNoCommand, IsUsageOf, IsUsageFor, told}

-- clap's exact matching covers the command line
pub bibkeep_is_simple : is_simple_and_free bibkeep ≡ true
unfolding clap_on_literals
bibkeep_is_simple = refl

-- if memory runs out, there is no text
pub usage_of_memory : (kind : ErrorKind) (usage : Usage) → IsUsageOf kind usage → kind ≡ OutOfMemory → usage ≡ no_memory
usage_of_memory kind usage (spec.help is status) memory = cc
usage_of_memory kind usage (spec.version is status) memory = cc
usage_of_memory kind usage (spec.mistake a b not_memory status) memory = absurd (not_memory memory)
usage_of_memory kind usage (spec.memory is) memory = is

-- an error of the words is the first fault that matching meets, or that memory ran out
pub usage_for : (words : List Text) (error : Error) (usage : Usage) → HasKind (fault_of bibkeep words) error → IsUsageOf (kind_of error) usage → IsUsageFor words usage
usage_for words error usage (inl memory) of = spec.memory (usage_of_memory (kind_of error) usage of memory)
usage_for words error usage (inr among) of = told (kind_of error) among of

-- the usage of words that match and name no command is a mistake, or memory ran out
pub matched_usage : (words : List Text) (usage : Usage) → MatchNoCommand words → (usage.status ≡ 2) ⊎ (usage ≡ no_memory) → IsUsageFor words usage
matched_usage words usage none (inl mistake) = spec.matched none mistake
matched_usage words usage none (inr memory) = spec.memory memory
