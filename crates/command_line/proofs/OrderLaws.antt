-- which of several causes is told
use Rattle.std.proofs.Common.{◌≤◌, ◌<◌, List, [], ◌∷◌, ◌++◌, ◌≡◌, ◌≢◌, ◌∙◌, sym, ap, arith, All, Contains, length, lit≤, subst}
use Rattle.lists.proofs.Containing.{All-back}
use Rattle.lists.proofs.Words.{All-contains}
use Rattle.command_line.specs.declared.cause.WordsCause.{WordsCause}
use Rattle.command_line.specs.declared.cause.WordsCause.TheVariants.{EmptyValue, EmptyLayout, Twice, TwoLayouts, NoLayout, LayoutBesideGenerate, BesideGenerate, BesideMap, NoMap, TwoTasks, BesideTask, Missing, NoMetals}
use Rattle.command_line.specs.declared.option_name.OptionName.{OptionName}
use Rattle.command_line.specs.declared.option_name.OptionName.TheVariants.{Map, Top, Generate}
use Rattle.command_line.specs.inside.Arguments.{AreSingle}
use Rattle.command_line.specs.inside.Readings.{IsFirstGiven, IsGivenAlone}
use Rattle.command_line.specs.inside.WordsRefusals.{IsFirstCause, IsOfForm}
use Rattle.command_line.specs.OptionNames.{Text}
use Rattle.command_line.specs.Requests.{HasNoEmptyText, IsNotEmpty, permitted, values_of}
use Rattle.command_line.specs.Spelling.{Given}
use Rattle.command_line.specs.WordsCauses.{IsOneGiven, IsCauseOf, no_layout, layout_beside_generate, beside_generate, beside_map, no_map, two_tasks, beside_task, missing, no_metals, IsCauseIn, empty_value, empty_layout, twice, two_layouts, of_values, file_options, metal_options, order_of, task_options}
use Rattle.command_line.proofs.AloneLaws.{between_is_listed, first_is_listed, no_two}

-- ---- what options with these values and these positional words lack

module _ (values : OptionName → List Text) (positions : List Text) where
  abbrev Is : WordsCause → Type 0
  Is = IsCauseOf values positions

  -- no cause of a form is told before that there is no layout
  pub form_after : (cause : WordsCause) → Is cause → 5 ≤ order_of cause
  form_after cause (no_layout _ _) = lit≤ tt
  form_after cause is = lit≤ tt

  -- a value that is not of its option's form is told where all else is well
  pub value_told : IsOfForm values positions → (cause : WordsCause) → 14 ≡ order_of cause → Is cause → IsFirstCause Is cause
  value_told form cause last is = record { is = is; first = λ other has. subst (λ n. n ≤ order_of other) last (form other has) }

  -- where the options that ask for something other than a report are left out, none of them is given
  module _ (no_other : All (λ name. values name ≡ []) task_options) where
    pub not_asked : (name : OptionName) → Contains task_options name → values name ≢ [] → ⊥
    not_asked name listed given = given (All-contains (λ other. values other ≡ []) task_options name no_other listed)

    pub none_before : (asked : OptionName) (before behind : List OptionName) → task_options ≡ before ++ asked ∷ behind → values asked ≢ [] → ⊥
    none_before asked before behind are = not_asked asked (between_is_listed task_options asked before behind are)

  -- where no layout is named
  module _ (none : positions ≡ []) where
    pub no_layout_told : values Generate ≡ [] → IsFirstCause Is NoLayout
    no_layout_told no_columns = record { is = no_layout none no_columns; first = form_after }

    module _ (columns : values Generate ≢ []) where
      pub beside_generate_told : (name : OptionName) → Contains file_options name → values name ≢ [] → IsFirstCause Is (BesideGenerate name)
      beside_generate_told name listed some = record { is = beside_generate columns listed some; first = first } where
        first : (other : WordsCause) → Is other → 7 ≤ order_of other
        first other (no_layout _ no_columns) = absurd (columns no_columns)
        first other (layout_beside_generate one _) = let s = sym none ∙ one in cc s
        first other is = lit≤ tt

      -- the last of the options about files ask for something other than a report
      tasks : All (λ name. values name ≡ []) file_options → All (λ name. values name ≡ []) task_options
      tasks = All-back (λ name. values name ≡ []) (Map ∷ Top ∷ metal_options) task_options

      pub generated_form : All (λ name. values name ≡ []) file_options → IsOfForm values positions
      generated_form all cause (no_layout _ no_columns) = absurd (columns no_columns)
      generated_form all cause (layout_beside_generate one _) = let s = sym none ∙ one in cc s
      generated_form all cause (beside_generate {name = name} _ listed some) = absurd (some (All-contains (λ other. values other ≡ []) file_options name all listed))
      generated_form all cause (beside_map map _ _) = absurd (map (all 0 Map (omega arith)))
      generated_form all cause (no_map {name = name} _ listed some) = absurd (not_asked (tasks all) name listed some)
      generated_form all cause (two_tasks {asked = asked} before behind are _ one _) = absurd (none_before (tasks all) asked before behind are one)
      generated_form all cause (beside_task {asked = asked} listed some _ _) = absurd (not_asked (tasks all) asked listed some)
      generated_form all cause (missing _ no_columns _ _ _) = absurd (columns no_columns)
      generated_form all cause (no_metals _ no_columns _) = absurd (columns no_columns)
      generated_form all cause is = lit≤ tt

  -- where one is named
  module _ (some : positions ≢ []) where
    pub layout_beside_told : (layout : Text) → positions ≡ layout ∷ [] → values Generate ≢ [] → IsFirstCause Is (LayoutBesideGenerate layout)
    layout_beside_told layout at columns = record { is = layout_beside_generate at columns; first = first } where
      first : (other : WordsCause) → Is other → 6 ≤ order_of other
      first other (no_layout none _) = absurd (some none)
      first other is = lit≤ tt

    module _ (no_columns : values Generate ≡ []) where
      pub beside_map_told : (name : OptionName) → values Map ≢ [] → Contains metal_options name → values name ≢ [] → IsFirstCause Is (BesideMap name)
      beside_map_told name map listed given = record { is = beside_map map listed given; first = first } where
        first : (other : WordsCause) → Is other → 8 ≤ order_of other
        first other (no_layout none _) = absurd (some none)
        first other (layout_beside_generate _ columns) = absurd (columns no_columns)
        first other (beside_generate columns _ _) = absurd (columns no_columns)
        first other is = lit≤ tt

      -- where a map is named, and no option of one metal is given
      module _ (map : values Map ≢ []) (no_metal : All (λ name. values name ≡ []) metal_options) where
        task_after : (other : WordsCause) → Is other → 10 ≤ order_of other
        task_after other (no_layout none _) = absurd (some none)
        task_after other (layout_beside_generate _ columns) = absurd (columns no_columns)
        task_after other (beside_generate columns _ _) = absurd (columns no_columns)
        task_after other (beside_map {name = metal} _ listed given) = absurd (given (All-contains (λ other. values other ≡ []) metal_options metal no_metal listed))
        task_after other (no_map none _ _) = absurd (map none)
        task_after other is = lit≤ tt

        pub two_tasks_told : (asked also : OptionName) (behind : List OptionName) → IsFirstGiven values task_options asked behind
            → Contains behind also → values also ≢ []
            → IsFirstCause Is (TwoTasks asked also)
        two_tasks_told asked also behind first listed given =
            record { is = two_tasks first.before behind first.are listed first.given given; first = task_after }

        -- and one option alone asks for something other than a report
        module _ (asked : OptionName) (alone : IsGivenAlone values task_options asked) where
          pub beside_task_told : (name : OptionName) → Contains permitted name → values name ≢ [] → IsFirstCause Is (BesideTask asked name)
          beside_task_told name beside also =
              let listed = first_is_listed values task_options asked alone.behind alone.first in
              record { is = beside_task listed alone.first.given beside also; first = first } where
                first : (other : WordsCause) → Is other → 11 ≤ order_of other
                first other (no_layout none _) = absurd (some none)
                first other (layout_beside_generate _ columns) = absurd (columns no_columns)
                first other (beside_generate columns _ _) = absurd (columns no_columns)
                first other (beside_map {name = metal} _ listed given) =
                    absurd (given (All-contains (λ other. values other ≡ []) metal_options metal no_metal listed))
                first other (no_map none _ _) = absurd (map none)
                first other (two_tasks {asked = a} {also = b} c d are listed one two) =
                    absurd (no_two values task_options asked alone a b c d are listed one two)
                first other is = lit≤ tt

          pub asked_form : All (λ name. values name ≡ []) permitted → IsOfForm values positions
          asked_form no_work cause (no_layout none _) = absurd (some none)
          asked_form no_work cause (layout_beside_generate _ columns) = absurd (columns no_columns)
          asked_form no_work cause (beside_generate columns _ _) = absurd (columns no_columns)
          asked_form no_work cause (beside_map {name = metal} _ listed given) = absurd (given (All-contains (λ other. values other ≡ []) metal_options metal no_metal listed))
          asked_form no_work cause (no_map none _ _) = absurd (map none)
          asked_form no_work cause (two_tasks {asked = a} {also = b} c d are listed one two) =
              absurd (no_two values task_options asked alone a b c d are listed one two)
          asked_form no_work cause (beside_task {name = name} _ _ beside also) = absurd (also (All-contains (λ other. values other ≡ []) permitted name no_work beside))
          asked_form no_work cause (missing none _ _ _ _) = absurd (map none)
          asked_form no_work cause (no_metals none _ _) = absurd (map none)
          asked_form no_work cause is = lit≤ tt

      module _ (none_mapped : values Map ≡ []) where
        pub no_map_told : (name : OptionName) → Contains task_options name → values name ≢ [] → IsFirstCause Is (NoMap name)
        no_map_told name listed given = record { is = no_map none_mapped listed given; first = first } where
          first : (other : WordsCause) → Is other → 9 ≤ order_of other
          first other (no_layout none _) = absurd (some none)
          first other (layout_beside_generate _ columns) = absurd (columns no_columns)
          first other (beside_generate columns _ _) = absurd (columns no_columns)
          first other (beside_map map _ _) = absurd (map none_mapped)
          first other is = lit≤ tt

        module _ (no_other : All (λ name. values name ≡ []) task_options) where
          pub no_metals_told : All (λ name. values name ≡ []) metal_options → IsFirstCause Is NoMetals
          no_metals_told all = record { is = no_metals none_mapped no_columns all; first = first } where
            first : (other : WordsCause) → Is other → 12 ≤ order_of other
            first other (no_layout none _) = absurd (some none)
            first other (layout_beside_generate _ columns) = absurd (columns no_columns)
            first other (beside_generate columns _ _) = absurd (columns no_columns)
            first other (beside_map map _ _) = absurd (map none_mapped)
            first other (no_map {name = name} _ listed given) = absurd (not_asked no_other name listed given)
            first other (two_tasks {asked = a} c d are _ one _) = absurd (none_before no_other a c d are one)
            first other (beside_task {asked = asked} listed given _ _) = absurd (not_asked no_other asked listed given)
            first other is = lit≤ tt

          pub missing_told : (name : OptionName) → Contains metal_options name → values name ≡ [] → IsOneGiven values metal_options → IsFirstCause Is (Missing name)
          missing_told name listed left_out one = record { is = missing none_mapped no_columns listed left_out one; first = first } where
            first : (other : WordsCause) → Is other → 13 ≤ order_of other
            first other (no_layout none _) = absurd (some none)
            first other (layout_beside_generate _ columns) = absurd (columns no_columns)
            first other (beside_generate columns _ _) = absurd (columns no_columns)
            first other (beside_map map _ _) = absurd (map none_mapped)
            first other (no_map {name = name} _ listed given) = absurd (not_asked no_other name listed given)
            first other (two_tasks {asked = a} c d are _ one _) = absurd (none_before no_other a c d are one)
            first other (beside_task {asked = asked} listed given _ _) = absurd (not_asked no_other asked listed given)
            first other (no_metals _ _ all) = absurd (one.given (All-contains (λ metal. values metal ≡ []) metal_options one.name all one.listed))
            first other is = lit≤ tt

          pub metal_form : All (λ name. values name ≢ []) metal_options → IsOfForm values positions
          metal_form all cause (no_layout none _) = absurd (some none)
          metal_form all cause (layout_beside_generate _ columns) = absurd (columns no_columns)
          metal_form all cause (beside_generate columns _ _) = absurd (columns no_columns)
          metal_form all cause (beside_map map _ _) = absurd (map none_mapped)
          metal_form all cause (no_map {name = name} _ listed given) = absurd (not_asked no_other name listed given)
          metal_form all cause (two_tasks {asked = a} c d are _ one _) = absurd (none_before no_other a c d are one)
          metal_form all cause (beside_task {asked = asked} listed given _ _) = absurd (not_asked no_other asked listed given)
          metal_form all cause (missing {name = name} _ _ listed left_out _) = absurd (All-contains (λ metal. values metal ≢ []) metal_options name all listed left_out)
          metal_form all cause (no_metals _ _ none) = absurd (all 0 Map (omega arith) (none 0 Map (omega arith)))
          metal_form all cause is = lit≤ tt

-- ---- what is empty or given more than once

module _ (given : Given) where
  abbrev IsIn : WordsCause → Type 0
  IsIn = IsCauseIn given

  pub empty_value_told : (name : OptionName) → Contains given.options (name, []) → IsFirstCause IsIn (EmptyValue name)
  empty_value_told name listed = record { is = empty_value listed; first = first } where
    first : (other : WordsCause) → IsIn other → 1 ≤ order_of other
    first other (of_values is) = let after = form_after (values_of given.options) given.positions other is in omega (arith, after)
    first other is = lit≤ tt

  no_empty_value : All (λ option. IsNotEmpty option.1) given.options → (name : OptionName) → Contains given.options (name, []) → ⊥
  no_empty_value all name listed = let full : IsNotEmpty [] = All-contains (λ option. IsNotEmpty option.1) given.options (name, []) all listed in absurd (omega arith)

  pub empty_layout_told : All (λ option. IsNotEmpty option.1) given.options → Contains given.positions [] → IsFirstCause IsIn EmptyLayout
  empty_layout_told all listed = record { is = empty_layout listed; first = first } where
    first : (other : WordsCause) → IsIn other → 2 ≤ order_of other
    first other (empty_value {name = name} has) = absurd (no_empty_value all name has)
    first other (of_values is) = let after = form_after (values_of given.options) given.positions other is in omega (arith, after)
    first other is = lit≤ tt

  module _ (texts : HasNoEmptyText given) where
    no_empty_layout : Contains given.positions [] → ⊥
    no_empty_layout listed = let full : IsNotEmpty [] = All-contains IsNotEmpty given.positions [] texts.positions listed in absurd (omega arith)

    pub twice_told : (name : OptionName) → 1 < length (values_of given.options name) → IsFirstCause IsIn (Twice name)
    twice_told name more = record { is = twice more; first = first } where
      first : (other : WordsCause) → IsIn other → 3 ≤ order_of other
      first other (empty_value {name = name} has) = absurd (no_empty_value texts.values name has)
      first other (empty_layout has) = absurd (no_empty_layout has)
      first other (of_values is) = let after = form_after (values_of given.options) given.positions other is in omega (arith, after)
      first other is = lit≤ tt

    module _ (few : (name : OptionName) → length (values_of given.options name) ≤ 1) where
      pub two_layouts_told : (one other : Text) (more : List Text) → given.positions ≡ one ∷ other ∷ more → IsFirstCause IsIn (TwoLayouts one other)
      two_layouts_told one two more are = record { is = two_layouts are; first = first } where
        first : (other : WordsCause) → IsIn other → 4 ≤ order_of other
        first other (empty_value {name = name} has) = absurd (no_empty_value texts.values name has)
        first other (empty_layout has) = absurd (no_empty_layout has)
        first other (twice {name = name} twofold) = let once = few name in absurd (omega (arith, once, twofold))
        first other (two_layouts _) = lit≤ tt
        first other (of_values is) = let after = form_after (values_of given.options) given.positions other is in omega (arith, after)

    pub checked : AreSingle given → (cause : WordsCause) → IsFirstCause (IsCauseOf (values_of given.options) given.positions) cause → IsFirstCause IsIn cause
    checked single cause told = record { is = of_values told.is; first = first } where
      first : (other : WordsCause) → IsIn other → order_of cause ≤ order_of other
      first other (empty_value {name = name} has) = absurd (no_empty_value texts.values name has)
      first other (empty_layout has) = absurd (no_empty_layout has)
      first other (twice {name = name} twofold) = let once = single.options name in absurd (omega (arith, once, twofold))
      first other (two_layouts two) = let few = single.positions in absurd (omega (arith, few, ap length two))
      first other (of_values is) = told.first other is
