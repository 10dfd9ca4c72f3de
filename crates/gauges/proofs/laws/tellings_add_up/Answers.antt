use Rattle.gauges.proofs.laws.Told.{some_told_keep_texts, texts_of-told, told_keep_texts, told_more_rows, told_prefixes, told_some_more, told_some_of_more, untold, untold_prefixes, untold_same}
use Rattle.gauges.proofs.laws.tellings_add_up.Goals as goal

pub returns : goal.returns
returns g c = record {
  none = untold;
  same = untold_same;
  all = told_more_rows;
  some = told_some_more;
  some_of_more = told_some_of_more;
  some_of_all = told_prefixes;
  some_of_none = untold_prefixes;
  printed = texts_of-told;
  texts = told_keep_texts;
  texts_of_some = some_told_keep_texts;
}
