use Rattle.std.proofs.Common.{◌≡◌, ◌≢◌, ◌∙◌, All, arith, false, sym, subst, take_all, true}
use Rattle.lists.proofs.Words.{All-more, bytes_eq, bytes_eq-Decides}
use Rattle.command_line.specs.declared.option_name.OptionName.{OptionName}
use Rattle.command_line.specs.declared.option_name.OptionName.TheVariants.{Map}
use Rattle.command_line.specs.declared.option_name.TheConstants.{OPTIONS}
use Rattle.command_line.specs.OptionNames.{Text, name_of}
use Rattle.command_line.proofs.CheckLaws.{each_listed}
use Rattle.command_line.proofs.option_name.OptionName.of.Goals as goal

-- a text that is, or is not, the name of the option is told by its bytes
is_its : (name text : Text) (option : OptionName) → text ≡ name_of option → true ≡ bytes_eq name text → name ≡ name_of option
is_its name text option is same = (bytes_eq-Decides name text).0 (sym same) ∙ is

is_not_its : (name text : Text) (option : OptionName) → text ≡ name_of option → false ≡ bytes_eq name text → name ≢ name_of option
is_not_its name text option is differs same = let s : false ≡ true = differs ∙ (bytes_eq-Decides name text).1 (same ∙ sym is) in cc s

pub returns-then-eq-clause-some : goal.returns-then-eq-clause-some
returns-then-eq-clause-some c = is_its c.args.name.now c.text.result.now _ c.text.ensures c.if-eq.ensures

pub loop-option-preserved : goal.loop-option-preserved
loop-option-preserved c =
    All-more (λ option. c.args.name.now ≢ name_of option) OPTIONS c.loop-option.option-index Map (omega arith) c.loop-option.invariant
    (is_not_its c.args.name.now c.text.result.now _ c.text.ensures c.if-eq.ensures)

pub returns-clause-none : goal.returns-clause-none
returns-clause-none c =
    each_listed (λ option. c.args.name.now ≢ name_of option)
    (subst (All (λ option. c.args.name.now ≢ name_of option)) (take_all c.loop-option.option-index OPTIONS c.loop-option-test.false) c.loop-option.invariant)
