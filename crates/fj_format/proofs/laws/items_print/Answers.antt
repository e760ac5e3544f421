use Rattle.fj_format.specs.PrintingLaws.{item_text-Field, item_text-Group, item_text-Str, item_text-Tab, item_text-Left, item_text-Right, item_text-Skip, item_text-Slash, item_text-Colon, item_text-Mode, item_text-Unlimited}
use Rattle.fj_format.proofs.laws.items_print.Goals as goal

pub returns : goal.returns
returns c = record {
  field = item_text-Field;
  group = item_text-Group;
  text = item_text-Str;
  to = item_text-Tab;
  back = item_text-Left;
  ahead = item_text-Right;
  skip = item_text-Skip;
  records = item_text-Slash;
  stop = item_text-Colon;
  change = item_text-Mode;
  unlimited = item_text-Unlimited;
}
