mod SheetLaws
