-- What the words ask for.
use denote.Ref.{Bor}
use Rattle.std.specs.Prelude.{ℕ, ◌^◌, ◌-◌, ◌≤◌, List, [], ◌∷◌, ◌++◌, codes, drop, map, take, Some, None}
use Rattle.std.specs.Prelude.{if◌then◌else◌}
use Rattle.std.specs.List.{position_or_len}
use Rattle.std.specs.declared.option.Option.{Option}
use Rattle.std.specs.Str.{bytes_eq}
use Rattle.command_line.specs.Requests.{number_in, request_of_words}
use Rattle.line_table.specs.declared.lines.FilterKind.{FilterKind}
use Rattle.line_table.specs.declared.lines.FilterKind.TheVariants.{Modulo, Bloom, Exact}
use Rattle.text_lines.specs.Lines.{◌>>=◌}
use Rattle.command_line.specs.Settings.{between}
use Rattle.watch_play.specs.watch_text.declared.head.CourseWord.{CourseWord}
use Rattle.watch_play.specs.watch_text.declared.head.CourseWord.TheVariants as courses
use Rattle.watch_play.specs.declared.telling.Telling.{Telling}
use Rattle.watch_play.specs.declared.telling.Telling.TheVariants as tellings
use Rattle.watch_play.specs.Texts.{IsTellable}
use Rattle.fractal_watch.specs.declared.words.Asking.{Asking}
use Rattle.fractal_watch.specs.declared.words.TheConstants.{STARVED_ROUNDS}

-- what is printed, and the words after those that say it
pub record WordsBehindTelling : Type 0 where
  pub telling : Telling
  pub behind : List (List ℕ)

-- `views K`, of which these are the words behind the first
abbrev pub views_number : List (List ℕ) → Option WordsBehindTelling
views_number [] = None
views_number (each ∷ behind) =
    number_in (between 1 (2 ^ 32 - 1)) each >>= λ number.
    Some (record { telling = tellings.Views number; behind = behind })

-- `every K`, of which these are the words behind the first
abbrev pub counts_number : List (List ℕ) → Option WordsBehindTelling
counts_number [] = None
counts_number (each ∷ behind) =
    number_in (between 1 (2 ^ 32 - 1)) each >>= λ number.
    Some (record { telling = tellings.Counts number; behind = behind })

-- `every K` in front of other words, of which `counts` was the first; 0 stands for it where it isn't there
abbrev pub counts_in : List (List ℕ) → Option WordsBehindTelling
counts_in [] = None
counts_in (word ∷ words) =
    if bytes_eq word (codes "every") then counts_number words
    else Some (record { telling = tellings.Counts 0; behind = word ∷ words })

-- `memory`, `views K` or `counts` in front of other words, or none of them
abbrev pub telling_in : List (List ℕ) → Option WordsBehindTelling
telling_in [] = None
telling_in (word ∷ words) =
    if bytes_eq word (codes "memory") then Some (record { telling = tellings.Memory; behind = words })
    else if bytes_eq word (codes "counts") then counts_in words
    else if bytes_eq word (codes "views") then views_number words
    else Some (record { telling = tellings.Lines; behind = word ∷ words })

-- a mode, and the words that ask `fractal_sim` for its options
pub record WordsOfCourse : Type 0 where
  pub course : CourseWord
  pub words : List (List ℕ)

-- the words that the code has of it
abbrev pub words_of : CourseWord → List ℕ → List (Bor (List ℕ)) → WordsOfCourse
words_of course command behind = record { course = course; words = command ∷ map (λ w. w.now) behind }

-- after how many starved rounds in a row the least task is advanced, and the words after that
pub record WordsBehindStarved : Type 0 where
  pub starved : ℕ
  pub behind : List (List ℕ)

-- `starved K`, of which these are the words behind the first
abbrev pub starved_number : List (List ℕ) → Option WordsBehindStarved
starved_number [] = None
starved_number (starved ∷ behind) =
    number_in (between 1 1000000) starved >>= λ number. Some (record { starved = number; behind = behind })

-- `starved K` in front of other words, or the number that stands for it where it isn't there
abbrev pub starved_in : List (List ℕ) → Option WordsBehindStarved
starved_in [] = Some (record { starved = STARVED_ROUNDS; behind = [] })
starved_in (word ∷ words) =
    if bytes_eq word (codes "starved") then starved_number words
    else Some (record { starved = STARVED_ROUNDS; behind = word ∷ words })

-- `lockstep ROUNDS SEED`, with `starved K` or not, of which these are the words behind the first
abbrev pub lockstep_in : List (List ℕ) → Option WordsOfCourse
lockstep_in [] = None
lockstep_in (rounds ∷ []) = None
lockstep_in (rounds ∷ seed ∷ behind) =
    number_in (between 1 1000000) rounds >>= λ count. number_in (between 0 (2 ^ 32 - 1)) seed >>= λ drawn.
    starved_in behind >>= λ starved.
    Some (record { course = courses.Lockstep count drawn starved.starved; words = codes "run" ∷ starved.behind })

-- `steps`, `least`, or `lockstep` with its numbers
abbrev pub course_in : List (List ℕ) → Option WordsOfCourse
course_in [] = None
course_in (word ∷ behind) =
    if bytes_eq word (codes "steps") then Some (record { course = courses.Steps; words = codes "steps" ∷ behind })
    else if bytes_eq word (codes "least") then Some (record { course = courses.Least; words = codes "run" ∷ behind })
    else if bytes_eq word (codes "lockstep") then lockstep_in behind
    else None

-- what the words ask for, by a filter of the kind Modulo; none where they are refused
unfoldable pub course_asked : List (List ℕ) → Option Asking
course_asked words =
    telling_in words >>= λ told. course_in told.behind >>= λ leading. request_of_words leading.words >>= λ request.
    Some (record { course = leading.course; telling = told.telling; request = request })

-- the kind of filters, and the words beside that
pub record WordsBesideFilter : Type 0 where
  pub filter : FilterKind
  pub words : List (List ℕ)

-- the kind of filter of this name
abbrev pub filter_named : List ℕ → Option FilterKind
filter_named word =
    if bytes_eq word (codes "modulo") then Some Modulo
    else if bytes_eq word (codes "bloom") then Some Bloom
    else if bytes_eq word (codes "exact") then Some Exact
    else None

-- the first place of `--filter` among the words, or how many they are
abbrev pub filter_place : List (List ℕ) → ℕ
filter_place = position_or_len (λ word. bytes_eq word (codes "--filter"))

-- `--filter` with its kind, if it is there, between these words and others
abbrev pub filter_behind : List (List ℕ) → List (List ℕ) → Option WordsBesideFilter
filter_behind before [] = Some (record { filter = Modulo; words = before })
filter_behind before (word ∷ []) = None
filter_behind before (word ∷ kind ∷ behind) =
    filter_named kind >>= λ filter. Some (record { filter = filter; words = before ++ behind })

-- `--filter` with its kind among the words
abbrev pub filter_among : List (List ℕ) → Option WordsBesideFilter
filter_among words = filter_behind (take (filter_place words) words) (drop (filter_place words) words)

-- the same request, with filters of this kind
abbrev pub with_filter : FilterKind → Asking → Asking
with_filter filter asking = record {
  course = asking.course;
  telling = asking.telling;
  request = record asking.request { settings = record asking.request.settings { filter = filter } };
}

-- what the words ask for; none where they are refused
unfoldable pub asking_of_words : List (List ℕ) → Option Asking
asking_of_words words =
    filter_among words >>= λ beside. course_asked beside.words >>= λ asking.
    Some (with_filter beside.filter asking)

-- the numbers of rounds are in their ranges
abbrev pub HasRounds : CourseWord → Type 0
HasRounds (courses.Lockstep rounds seed starved) = (1 ≤ rounds) × (rounds ≤ 1000000) × (1 ≤ starved)
HasRounds other = Unit {0}

-- so are the numbers that the words give: of rounds, and of moments between views
pub record IsInRanges (asking : Asking) : Type 0 where
  pub telling : IsTellable asking.telling
  pub rounds : HasRounds asking.course
