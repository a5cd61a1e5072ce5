-- What `clap` answers of words, and which command it is.
use Rattle.std.proofs.Common.{◌≡◌, inl, inr, true, false, List, [], ◌∷◌, codes, option_map, Option, Some, None, refl, sym, ◌∙◌, ap, ap₂, subst}
use Rattle.basics.specs.Optional.{◌>>=◌}
use Rattle.clap.specs.Faults.{fault_of, is_simple_and_free}
use Rattle.clap.specs.Kinds.{HasKind, Kinds}
use Rattle.clap.specs.Matches.{first_value, matched_of, raw_values}
use Rattle.clap.specs.Simple.{App, is_simple, subcommand_of, subcommand_rows_of}
use Rattle.clap.specs.Values.{kind_of}
use Rattle.clap.specs.Walk.{Row, Text, first_of, rows_of}
use Rattle.clap.specs.declared.Error.{Error}
use Rattle.clap.specs.declared.error.ErrorKind.TheVariants as kind
use Rattle.clap.specs.declared.parser.ArgMatches.{ArgMatches}
use Rattle.clap.specs.declared.parser.matches.Found.{Found}
use Rattle.clap.proofs.OnLiterals.{clap_on_literals}
use Rattle.clap.proofs.WalkLemmas.{first_value-rows, raw_values-rows}
use Rattle.commands.specs.Command.{FilterWord, Located, tuples, drawings_named}
use Rattle.commands.specs.Syntax.{build_by, build_in, command_if, command_in, command_of, entered, filters_in, filters_of, lacks_option_value, refusals, tuples_by, tuples_in, vfb_app}
use Rattle.commands.specs.Taken.{AreTaken}

-- ---- the program

is_free : is_simple_and_free vfb_app ≡ true
unfolding clap_on_literals
is_free = refl

are_simple : is_simple vfb_app ≡ true
unfolding clap_on_literals
are_simple = refl

-- words that were taken have no fault
pub takes : (app : App) (words : List Text) → app ≡ vfb_app → (is_simple_and_free app ≡ true → fault_of app words ≡ []) → refusals words ≡ []
unfolding refusals
takes app words is none = subst (λ (app : App). fault_of app words ≡ []) is (none (ap is_simple_and_free is ∙ is_free))

-- and their matches are those of the subcommand
pub enters : (app : App) (words : List Text) (own : Type 0) (found : Option (Text × List Row)) → app ≡ vfb_app
    → (is_simple app ≡ true → own × (found ≡ subcommand_of app words)) → found ≡ entered words
unfolding entered
enters app words own found is rows = (rows (ap is_simple is ∙ are_simple)).1 ∙ ap (λ (app : App). subcommand_of app words) is

one_kind : (kinds : Kinds) (error : Error) → HasKind kinds error → (kind_of error ≡ kind.OutOfMemory → ⊥) → kinds ≡ [] → ⊥
one_kind [] error (inl memory) other none = other memory
one_kind [] error (inr among) other none = among
one_kind (k ∷ kinds) error has other none = absurd cc

-- words that were refused have one, if memory lasted
pub refuses : (app : App) (words : List Text) (error : Error) → app ≡ vfb_app → (is_simple_and_free app ≡ true → HasKind (fault_of app words) error)
    → (kind_of error ≡ kind.OutOfMemory → ⊥) → refusals words ≡ [] → ⊥
unfolding refusals
refuses app words error is has other none =
    one_kind (fault_of app words) error (has (ap is_simple_and_free is ∙ is_free)) other (ap (λ (app : App). fault_of app words) is ∙ none)

-- ---- the commands

pub filters_found : (found : Found) (words : Option (List Text)) → words ≡ option_map raw_values (matched_of found (codes "filter")) → filters_of words ≡ filters_in (rows_of found)
filters_found found words are = ap filters_of (are ∙ raw_values-rows found (codes "filter"))

pub build_found : (found : Found) (design out : Option Text) (filters : List FilterWord) → design ≡ first_value found (codes "design") → out ≡ first_value found (codes "out")
    → filters ≡ filters_in (rows_of found) → build_by design out filters ≡ build_in (rows_of found)
build_found found design out filters is_design is_out are =
    ap₂ (λ (design out : Option Text). build_by design out filters) (is_design ∙ first_value-rows found (codes "design")) (is_out ∙ first_value-rows found (codes "out"))
    ∙ ap (build_by (first_of (codes "design") (rows_of found)) (first_of (codes "out") (rows_of found))) are

pub tuples_found : (found : Found) (out : Option Text) (words : Option (List Text)) → out ≡ first_value found (codes "out")
    → words ≡ option_map raw_values (matched_of found (codes "drawings")) → tuples_by out words ≡ tuples_in (rows_of found)
tuples_found found out words is_out are_words =
    ap₂ tuples_by (is_out ∙ first_value-rows found (codes "out")) (are_words ∙ raw_values-rows found (codes "drawings"))

pub drawings_found : (out : Text) (words : List Text) (drawings : Option (List Located)) → drawings ≡ drawings_named words
    → (drawings >>= λ drawings. Some (tuples (record { out = out; drawings = drawings }))) ≡ tuples_by (Some out) (Some words)
drawings_found out words drawings are = ap (λ (drawings : Option (List Located)). drawings >>= λ drawings. Some (tuples (record { out = out; drawings = drawings }))) are

-- ---- the whole

pub some_command : (words : List Text) (matches : ArgMatches) → lacks_option_value words ≡ false → AreTaken (refusals words) (entered words) (Some matches)
    → command_in (subcommand_rows_of matches) ≡ command_of words
unfolding command_of
some_command words matches has (none, is) = rw has (ap command_in is ∙ ap (λ kinds. command_if kinds (entered words)) (sym none))

none_if : (kinds : Kinds) (found : Option (Text × List Row)) → (kinds ≡ [] → ⊥) → None ≡ command_if kinds found
none_if [] found some = absurd (some refl)
none_if (kind ∷ kinds) found some = refl

pub no_command : (words : List Text) → lacks_option_value words ≡ false → AreTaken (refusals words) (entered words) None → None ≡ command_of words
unfolding command_of
no_command words has some = rw has (none_if (refusals words) (entered words) some)

pub lacks_command : (words : List Text) → lacks_option_value words ≡ true → None ≡ command_of words
unfolding command_of
lacks_command words lacks = rw lacks refl
